-- A set of threads by its bits, and a take of one block.
use Rattle.std.proofs.Common.{◌≡◌, ℕ, ◌<◌, ◌≤◌, ◌^◌, Bool, cond, eqb, Some, None, Ok, Err, Option, bit_and, bit_or, w16, refl, ap, ◌∙◌, ⊎_elim, subst, lit<, arith}
use mathlib.Core.Path.{fun_ext}
use Rattle.std.specs.Int.{bit_at, bit_not, trailing_zeros}
use Rattle.std.proofs.lemmas.Bool.{cases_lt, cases_eq, eq-eqb, ne_eqb}
use Rattle.std.proofs.lemmas.Bool.Decides.{nat_tests}
use Rattle.std.proofs.lemmas.Nat.Bits.{bit_at-lt, bit_at-trailing_zeros, bit_at_and, bit_at_or, bit_at_not, bit_at_above, bit_at-pow_same, bit_at-pow_other}
use Rattle.book.specs.declared.Take.{Take}
use Rattle.book.specs.declared.Take.TheVariants.{Load, Store}
use Rattle.book.specs.Holdings.{Holdings, Lowest, wanted, barred_by, is_in_the_way, lowest_in_the_way}
use Rattle.book.specs.Rules.{by_book, conflict}
use Rattle.book.specs.declared.numbers.Bounded.{Bounded}
use Rattle.book.proofs.Below.{lowest-only}
use Rattle.book.proofs.Takes.{enough, barred, raised, taken-only}
use Rattle.further.specs.declared.holders.Holders.TheVariants.{Readers, Writer}
use Rattle.further.specs.Held.{everywhere, TakenBy}

-- one thread's bit set
pub bit_set : (set k t : ℕ) → bit_at (bit_or set (2 ^ k)) t ≡ cond (eqb t k) 1 (bit_at set t)
bit_set set k t =
    let l = bit_at-lt set t in
    let e = bit_at_or set (2 ^ k) t in
    ⊎_elim
    (λ (same : t ≡ k). rw (same, eq-eqb k k refl) (let f = bit_at_or set (2 ^ k) k in let g = bit_at-pow_same k in let m = bit_at-lt set k in omega arith))
    (λ (ne : t ≡ k → ⊥). rw (ne_eqb t k ne) (let g = bit_at-pow_other k t ne in omega arith))
    (cases_eq t k)

-- and cleared
pub bit_cleared : (set k t : ℕ) → set < 2 ^ 16 → 2 ^ k < 2 ^ 16 → bit_at (bit_and set (bit_not w16 (2 ^ k))) t ≡ cond (eqb t k) 0 (bit_at set t)
bit_cleared set k t fits below =
    let e = bit_at_and set (bit_not w16 (2 ^ k)) t in
    let l = bit_at-lt set t in
    ⊎_elim
    (λ (inside : t < 16). let f = bit_at_not w16 (2 ^ k) t below inside in ⊎_elim
    (λ (same : t ≡ k). rw (same, eq-eqb k k refl) (let g = bit_at-pow_same k in let f' = bit_at_not w16 (2 ^ k) k below (omega arith) in let e' = bit_at_and set (bit_not w16 (2 ^ k)) k in omega arith))
    (λ (ne : t ≡ k → ⊥). rw (ne_eqb t k ne) (let g = bit_at-pow_other k t ne in omega arith))
    (cases_eq t k))
    (λ (outside : 16 ≤ t). let n = bit_at_above set 16 t fits outside in ⊎_elim
    (λ (same : t ≡ k). rw (eq-eqb t k same) (omega arith))
    (λ (ne : t ≡ k → ⊥). rw (ne_eqb t k ne) (omega arith))
    (cases_eq t k))
    (cases_lt t 16)

-- the lowest thread of a set that has one
pub lowest_bit : (set : ℕ) → 0 < set → set < 2 ^ 16 → Lowest (λ t. eqb (bit_at set t) 1) 16 (Some (trailing_zeros w16 set))
lowest_bit set some fits =
    let (within, one, zeros) = bit_at-trailing_zeros w16 set some fits in
    (within, eq-eqb _ 1 one, λ j l. rw (zeros j l))

-- a load among readers
pub load_granted : (set k : ℕ) → k < 16 → TakenBy Load (Readers set) k (Ok (Readers (bit_or set (2 ^ k))))
load_granted set k below =
    let m = bit_at-lt set k in
    ⊎_elim
    (λ (short : bit_at set k < 1).
    let none = lowest-only (is_in_the_way Load (everywhere (Readers set)) k 0) 16 None (λ j l. let n = bit_at-lt set j in grind (arith, nat_tests)) in
    let (answer, after) = taken-only Load (everywhere (Readers set)) k 0 (raised below (lit< tt) short none) in
    (answer, λ u. bit_set set k u ∙ grind (arith, nat_tests) ∙ ap (λ (H : Holdings). H u 0) after))
    (λ (held : 1 ≤ bit_at set k).
    let (answer, after) = taken-only Load (everywhere (Readers set)) k 0 (enough below (lit< tt) held) in
    (answer, λ u. bit_set set k u ∙ kept u (omega arith) ∙ ap (λ (H : Holdings). H u 0) after))
    (cases_lt (bit_at set k) 1)
  where
    kept : (u : ℕ) → bit_at set k ≡ 1 → cond (eqb u k) 1 (bit_at set u) ≡ bit_at set u
    kept u one = ⊎_elim (λ (same : u ≡ k). rw (same, eq-eqb k k refl, one)) (λ (ne : u ≡ k → ⊥). rw (ne_eqb u k ne)) (cases_eq u k)

-- a store among readers, with the set of the others
module _ (set others k : ℕ) (below : k < 16) (fits : others < 2 ^ 16) (same : (t : ℕ) → bit_at others t ≡ cond (eqb t k) 0 (bit_at set t)) where
  short : bit_at set k < 64
  short = let l = bit_at-lt set k in omega arith

  lowest_other : (o : Option ℕ) → Lowest (λ t. eqb (bit_at others t) 1) 16 o → lowest_in_the_way Store (everywhere (Readers set)) k 0 ≡ o
  lowest_other o found =
      lowest-only (is_in_the_way Store (everywhere (Readers set)) k 0) 16 o
      (subst (λ (p : ℕ → Bool). Lowest p 16 o) (fun_ext (λ j. let e = same j in let l = bit_at-lt set j in grind (arith, nat_tests))) found)

  pub store_refused : (u : ℕ) → Lowest (λ t. eqb (bit_at others t) 1) 16 (Some u) → TakenBy Store (Readers set) k (Err (by_book (conflict Store u)))
  store_refused u found = (taken-only Store (everywhere (Readers set)) k 0 (barred u below (lit< tt) short (lowest_other (Some u) found))).0

  nobody : Lowest (λ t. eqb (bit_at others t) 1) 16 None → (u : ℕ) → bit_at others u ≡ 0
  nobody none u =
      let l = bit_at-lt others u in
      ⊎_elim (λ (inside : u < 16). let e = none u inside in grind (arith, nat_tests)) (λ (outside : 16 ≤ u). bit_at_above others 16 u fits outside) (cases_lt u 16)

-- and one that is granted
pub store_granted : (set others : ℕ) (writer : Bounded 16) → others < 2 ^ 16 → ((t : ℕ) → bit_at others t ≡ cond (eqb t writer.number) 0 (bit_at set t)) → Lowest (λ t. eqb (bit_at others t) 1) 16 None → TakenBy Store (Readers set) writer.number (Ok (Writer writer))
store_granted set others writer fits same none =
    let (answer, after) = taken-only Store (everywhere (Readers set)) writer.number 0 (raised writer.range (lit< tt) (short set others writer.number writer.range fits same) (lowest_other set others writer.number writer.range fits same None none)) in
    (answer, λ u. (let e = same u in let f = nobody set others writer.number writer.range fits same none u in grind (arith, nat_tests)) ∙ ap (λ (H : Holdings). H u 0) after)

wants_some : (take : Take) → 0 < wanted take
wants_some Load = lit< tt
wants_some Store = lit< tt

barred_range : (take : Take) → (0 < barred_by take) × (barred_by take ≤ 64)
barred_range Load = (lit< tt, omega arith)
barred_range Store = (lit< tt, omega arith)

-- a take of a block that another thread holds
pub other_refused : (take : Take) (writer : Bounded 16) (k : ℕ) → k < 16 → (writer.number ≡ k → ⊥) → TakenBy take (Writer writer) k (Err (by_book (conflict take writer.number)))
other_refused take writer k below ne =
    let some = wants_some take in
    let (one, all) = barred_range take in
    let lowest = lowest-only (is_in_the_way take (everywhere (Writer writer)) k 0) 16 (Some writer.number) (writer.range, grind (arith, nat_tests), λ j l. grind (arith, nat_tests)) in
    (taken-only take (everywhere (Writer writer)) k 0 (barred writer.number below (lit< tt) (grind (arith, nat_tests)) lowest)).0

pub ruleset takes = (load_granted, store_refused, other_refused)
