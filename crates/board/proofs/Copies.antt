-- A board's copy, among the copies of a block.
use Rattle.std.proofs.Common.{◌≡◌, ℕ, ◌+◌, ◌<◌, true, false, List, [], ◌∷◌, ◌++◌, map, length, get_or, take, None, fold, sum_by, Option, sym, refl, ap, ◌∙◌, ⊎_elim, arith}
use Rattle.std.proofs.lemmas.List.{length-map, get_or-map, map-append, take_more}
use Rattle.std.proofs.lemmas.List.Sums.{fold-append, sum_by_more}
use Rattle.std.proofs.lemmas.Bool.{or_from, or_parts, cases_Bool, both_ways}
use Rattle.marks.specs.Codes.{copy_code_of}
use Rattle.marks.specs.Rules.{state_in}
use Rattle.marks.specs.States.{debit_of, is_writer}
use Rattle.marks.specs.declared.Mark.{Mark}
use Rattle.marks.specs.declared.states.Metastate.{Metastate}
use Rattle.marks.specs.declared.states.Metastate.TheVariants.{Anonymous, Reader, Writer}
use Rattle.book.specs.Balance.{Fuses, Coherent}
use Rattle.book.specs.Marking.{fused, load_answer}
use Rattle.book.specs.Rules.{granted}
use Rattle.book.specs.Picture.{Marks, debit_in, writer_in, any_writer, shown_by}
use Rattle.book.proofs.Fusing.{any_at, coherent_step}

-- what is read there, as a metastate
pub copy_at : (cs : List (Option Mark)) (i : ℕ) (d : Option Mark) (e : Option Metastate) → i < length cs → get_or (map state_in cs) i e ≡ state_in (get_or cs i d)
copy_at cs i d e l = get_or-map state_in cs i d e l

-- home fuses with each copy in turn
pub fuses_next : (h : Metastate) (cs ds : List (Option Metastate)) (c : Option Metastate) → Coherent h (cs ++ c ∷ ds) → Fuses (fold fused h cs) c
fuses_next h [] ds c w = (coherent_step h c ds w).0
fuses_next h (d ∷ cs) ds c w = fuses_next (fused h d) cs ds c (coherent_step h d (cs ++ c ∷ ds) w).1

-- one copy more fused into home
pub one_fused : (h : Metastate) (cs : List (Option Mark)) (c : Option Mark) → fused (fold fused h (map state_in cs)) (state_in c) ≡ fold fused h (map state_in (cs ++ c ∷ []))
one_fused h cs c = sym (ap (fold fused h) (map-append state_in cs (c ∷ [])) ∙ fold-append fused h (map state_in cs) (state_in c ∷ []))

-- one copy more among those that show no writer, and in the sum
any_push : (cs : List (Option Metastate)) (c : Option Metastate) → any_writer cs ≡ false → writer_in c ≡ false → any_writer (cs ++ c ∷ []) ≡ false
any_push [] c h w = or_from (writer_in c) false w refl
any_push (d ∷ cs) c h w =
    let (h₁, h₂) = or_parts (writer_in d) (any_writer cs) h in
    or_from (writer_in d) (any_writer (cs ++ c ∷ [])) h₁ (any_push cs c h₂ w)

pub any_more : (cs : List (Option Mark)) (i : ℕ) (d : Option Mark) → i < length cs → any_writer (take i (map state_in cs)) ≡ false → writer_in (state_in (get_or cs i d)) ≡ false → any_writer (take (i + 1) (map state_in cs)) ≡ false
any_more cs i d l h w =
    let lt : i < length (map state_in cs) = simp length-map l in
    rw (take_more (map state_in cs) i None lt, copy_at cs i d None l) (any_push (take i (map state_in cs)) (state_in (get_or cs i d)) h w)

pub debit_more : (cs : List (Option Mark)) (i : ℕ) (d : Option Mark) → i < length cs → sum_by debit_in (take (i + 1) (map state_in cs)) ≡ sum_by debit_in (take i (map state_in cs)) + debit_in (state_in (get_or cs i d))
debit_more cs i d l =
    let lt : i < length (map state_in cs) = simp length-map l in
    sum_by_more debit_in (map state_in cs) i None lt ∙ ap (λ c. sum_by debit_in (take i (map state_in cs)) + debit_in c) (copy_at cs i d None l)

-- what the marks show, by who is seen
pub shown-home : (m : Marks) → is_writer m.home ≡ true → 64 ≡ shown_by m
shown-home m w = rw w

pub shown-copy : (m : Marks) (i : ℕ) → is_writer m.home ≡ false → writer_in (get_or m.copies i None) ≡ true → 64 ≡ shown_by m
shown-copy m i w v = rw (w, ⊎_elim (λ (e : any_writer m.copies ≡ true). e) (λ (e : any_writer m.copies ≡ false). absurd (both_ways _ (any_at m.copies i e) v)) (cases_Bool (any_writer m.copies)))

pub shown-readers : (m : Marks) → is_writer m.home ≡ false → any_writer m.copies ≡ false → debit_of m.home + sum_by debit_in m.copies ≡ shown_by m
shown-readers m w v = rw (w, v)

-- the code of a copy, and of all four
abbrev code_at : List (Option Mark) → ℕ → Option Mark → ℕ
code_at cs i d = copy_code_of (state_in (get_or cs i d))

pub four_codes : (cs : List (Option Mark)) (p q r s : Option Mark) → length cs ≡ 4 → code_at cs 0 p ∷ code_at cs 1 q ∷ code_at cs 2 r ∷ code_at cs 3 s ∷ [] ≡ map copy_code_of (map state_in cs)
four_codes [] p q r s e = absurd (let z : ⊥ = omega arith in z)
four_codes (c ∷ []) p q r s e = absurd (let z : ⊥ = omega arith in z)
four_codes (c ∷ d ∷ []) p q r s e = absurd (let z : ⊥ = omega arith in z)
four_codes (c ∷ d ∷ f ∷ []) p q r s e = absurd (let z : ⊥ = omega arith in z)
four_codes (c ∷ d ∷ f ∷ g ∷ []) p q r s e = refl
four_codes (c ∷ d ∷ f ∷ g ∷ h ∷ cs) p q r s e = absurd (let z : ⊥ = omega arith in z)

-- a mark that shows no writer lets a load pass
pub reader_passes : (m : Metastate) → ((x : ℕ) → m ≡ Writer x → ⊥) → granted ≡ load_answer m
reader_passes (Anonymous u) h = refl
reader_passes (Reader x) h = refl
reader_passes (Writer x) h = absurd (h x refl)
