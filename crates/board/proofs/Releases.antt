-- The tokens of a log given back: what a block is relieved of, record by record.
use Rattle.std.proofs.Common.{◌≡◌, ℕ, ◌-◌, ◌<◌, cond, ◌&&◌, ltb, eqb, List, [], ◌∷◌, ◌++◌, ap, ◌∙◌, arith}
use mathlib.Core.Path.{fun_ext}
use Rattle.std.proofs.lemmas.Bool.Decides.{nat_tests}
use Rattle.std.proofs.lemmas.List.Sums.{sum_by-append, sum_by-cons}
use Rattle.marks.specs.States.{debit_of}
use Rattle.marks.specs.declared.states.Metastate.TheVariants.{Anonymous}
use Rattle.book.specs.Marking.{set_at, gathered, relieved}
use Rattle.book.specs.Picture.{Marks, Recorded, credit_of}
use Rattle.book.proofs.Balances.{credit_push}

-- a block gathered, and then relieved
pub relieved_gathered : (credit : ℕ) (m g r : Marks) → g ≡ gathered m → r.home ≡ Anonymous (debit_of g.home - credit) → r.copies ≡ g.copies → r ≡ relieved credit m
unfolding gathered relieved
relieved_gathered credit m g r e home copies =
    λ i.
    record {
      home = (home ∙ ap (λ (n : Marks). Anonymous (debit_of n.home - credit)) e) i;
      copies = (copies ∙ ap (λ (n : Marks). n.copies) e) i;
    }

-- the marks, once the records so far were seen: every block of one of them is relieved of all that the log counts for it
abbrev pub relieved_by : List Recorded → List Recorded → (ℕ → Marks) → (ℕ → Marks)
relieved_by seen log marks = λ b. cond (ltb b 64 && ltb 0 (credit_of b seen)) (relieved (credit_of b log) (marks b)) (marks b)

-- the credits that are left then
abbrev pub left_by : List Recorded → List Recorded → (ℕ → ℕ)
left_by seen log = λ b. cond (ltb 0 (credit_of b seen)) 0 (credit_of b log)

-- one record more: its block is relieved, or was
pub relieved_now : (marks : ℕ → Marks) (seen log : List Recorded) (b n : ℕ) → b < 64 → 0 < n → 0 < left_by seen log b →
    set_at (relieved_by seen log marks) b (relieved (left_by seen log b) (relieved_by seen log marks b)) ≡ relieved_by (seen ++ record { block = b; count = n } ∷ []) log marks
relieved_now marks seen log b n l some left = fun_ext at
  where
    at : (c : ℕ) → set_at (relieved_by seen log marks) b (relieved (left_by seen log b) (relieved_by seen log marks b)) c ≡ relieved_by (seen ++ record { block = b; count = n } ∷ []) log marks c
    at c =
        let e = credit_push seen b n c in
        grind (arith, nat_tests)

pub relieved_before : (marks : ℕ → Marks) (seen log : List Recorded) (b n : ℕ) → b < 64 → 0 < n → 0 < credit_of b log → left_by seen log b ≡ 0 →
    relieved_by seen log marks ≡ relieved_by (seen ++ record { block = b; count = n } ∷ []) log marks
relieved_before marks seen log b n l some held left = fun_ext at
  where
    at : (c : ℕ) → relieved_by seen log marks c ≡ relieved_by (seen ++ record { block = b; count = n } ∷ []) log marks c
    at c =
        let e = credit_push seen b n c in
        grind (arith, nat_tests)

-- and its credit is gone, or was
pub left_now : (seen log : List Recorded) (b n c : ℕ) → 0 < n → set_at (left_by seen log) b 0 c ≡ left_by (seen ++ record { block = b; count = n } ∷ []) log c
left_now seen log b n c some =
    let e = credit_push seen b n c in
    grind (arith, nat_tests)

pub left_before : (seen log : List Recorded) (b n c : ℕ) → 0 < n → left_by seen log b ≡ 0 → left_by seen log c ≡ left_by (seen ++ record { block = b; count = n } ∷ []) log c
left_before seen log b n c some left =
    let e = credit_push seen b n c in
    grind (arith, nat_tests)

-- a block has the credit of each of its records
pub credit_there : (seen rest : List Recorded) (r : Recorded) → 0 < r.count → 0 < credit_of r.block (seen ++ r ∷ rest)
credit_there seen rest r some =
    let e = sum_by-append (λ s. cond (eqb s.block r.block) s.count 0) seen (r ∷ rest) in
    let f = sum_by-cons (λ s. cond (eqb s.block r.block) s.count 0) r rest in
    grind (arith, nat_tests)

-- where credit is left, the block is as it was
pub relieved_not_yet : (marks : ℕ → Marks) (seen log : List Recorded) (b : ℕ) → 0 < left_by seen log b → relieved_by seen log marks b ≡ marks b
relieved_not_yet marks seen log b left = grind (arith, nat_tests)
