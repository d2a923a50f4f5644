-- The fields of a line by its first two bytes.
use Rattle.std.proofs.Common.{◌≡◌, ℕ, suc, ◌+◌, ◌-◌, ◌<◌, ◌≤◌, ◌≢◌, Bool, true, false, cond, eqb, List, [], ◌∷◌, length, get_or, take, drop, Err, Result, sym, refl, ap, ◌∙◌, subst, arith}
use Rattle.std.specs.List.{onto_first}
use Rattle.std.proofs.lemmas.List.{get_or_past, take_rest}
use Rattle.std.proofs.lemmas.Bool.{eqb-true, eq-eqb, ne_eqb, cond-false}
use Rattle.fault.specs.declared.Fault.{Fault}
use Rattle.fault.specs.declared.Refusal.TheVariants.{UnknownCommand, NotANumber}
use Rattle.store.specs.declared.Call.{Call}
use Rattle.script.specs.Commands.{command_of, command_in, commanded, number_at, or_refused, parse_of, refuse}
use Rattle.script.specs.Pieces.{cut, fields_of}
use Rattle.script.specs.Numerals.{number_in}
use Rattle.script.proofs.Reading.{none_unopened}

-- the call of a line with these fields
abbrev parsed : List (List ℕ) → Result Call Fault
parsed fs = commanded (command_in (get_or fs 0 [])) (length fs) fs

-- a first field of one byte, or an empty one where that byte is a space
lettered : (c found : ℕ) (fs more : List (List ℕ)) (b : Bool) → eqb c 32 ≡ b → found ≡ suc (length fs) → commanded (command_of c) found (cond b ([] ∷ more) ((c ∷ []) ∷ fs)) ≡ parsed (cond b ([] ∷ more) ((c ∷ []) ∷ fs))
lettered c found fs more true e n = ap (λ x. commanded (command_of x) found ([] ∷ more)) (eqb-true c 32 e)
lettered c found fs more false e n = ap (λ k. commanded (command_of c) k ((c ∷ []) ∷ fs)) n

-- a first field of more than one byte, or an empty one
long : (c d : ℕ) (fs more : List (List ℕ)) (b : Bool) → Err (refuse UnknownCommand) ≡ parsed (cond b ([] ∷ more) (onto_first c (onto_first d fs)))
long c d fs more true = refl
long c d [] more false = refl
long c d (p ∷ ps) more false =
    ap (λ k. commanded k (suc (length ps)) ((c ∷ d ∷ p) ∷ ps)) (sym (cond-false _ _ _ (ne_eqb (suc (suc (length p))) 1 (λ e. omega arith))))

pub parse_lone : (line : List ℕ) → length line ≡ 1 → commanded (command_of (get_or line 0 0)) 1 (fields_of line) ≡ parse_of line
unfolding parse_of cut
parse_lone [] h = absurd (omega arith)
parse_lone (c ∷ []) h = lettered c 1 [] ([] ∷ []) (eqb c 32) refl refl
parse_lone (c ∷ d ∷ cs) h = absurd (omega arith)

-- a line whose second byte is d, by whether that is a space
abbrev second : ℕ → ℕ → List (List ℕ) → Bool → List (List ℕ)
second c d fs b = let rest = cond b ([] ∷ fs) (onto_first d fs) in cond (eqb c 32) ([] ∷ rest) (onto_first c rest)

pub parse_spaced : (line : List ℕ) (rest : ℕ) → rest ≡ length (fields_of (take (length line - 2) (drop 2 line))) → 2 ≤ length line → get_or line 1 0 ≡ 32 → commanded (command_of (get_or line 0 0)) (1 + rest) (fields_of line) ≡ parse_of line
unfolding parse_of cut
parse_spaced [] rest e h s = absurd (omega arith)
parse_spaced (c ∷ []) rest e h s = absurd (omega arith)
parse_spaced (c ∷ d ∷ cs) rest e h s =
    let fs = fields_of cs in
    let count : 1 + rest ≡ suc (length fs) = omega (arith, e ∙ ap (λ t. length (fields_of t)) (take_rest (c ∷ d ∷ cs) 2)) in
    subst (λ b. commanded (command_of c) (1 + rest) (second c d fs b) ≡ parsed (second c d fs b)) (sym (eq-eqb d 32 s))
    (lettered c (1 + rest) fs ([] ∷ fs) (eqb c 32) refl count)

pub parse_other : (line : List ℕ) → length line ≢ 1 → (2 ≤ length line → get_or line 1 0 ≢ 32) → Err (refuse UnknownCommand) ≡ parse_of line
unfolding parse_of cut
parse_other [] n s = refl
parse_other (c ∷ []) n s = absurd (n refl)
parse_other (c ∷ d ∷ cs) n s =
    let fs = fields_of cs in
    subst (λ b. Err (refuse UnknownCommand) ≡ parsed (second c d fs b)) (sym (ne_eqb d 32 (s (omega arith))))
    (long c d fs (onto_first d fs) (eqb c 32))

-- a field that the line lacks is no number
pub missing_number : (line : List ℕ) (position : ℕ) → length (fields_of line) < position → Err (refuse (NotANumber position)) ≡ number_at (fields_of line) position
missing_number line position h =
    ap (or_refused position) (sym (ap number_in (get_or_past (fields_of line) (position - 1) [] (omega arith)) ∙ none_unopened [] refl))
