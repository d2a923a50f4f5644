-- Bytes cut at a separator: the first piece, the rest, and the pieces put together again.
use Rattle.std.proofs.Common.{◌≡◌, ℕ, ◌+◌, ◌<◌, ◌≤◌, Bool, true, false, cond, not, eqb, List, [], ◌∷◌, length, take, drop, one-add, add-one, sym, refl, ap, ◌∙◌, arith}
use Rattle.std.specs.List.{slice_split, onto_first, count_by, join_with_byte, position_or_len}
use Rattle.std.proofs.lemmas.List.Sums.{count_by-le-length}
use Rattle.std.proofs.lemmas.List.Splits.{length-slice_split, join_with_byte-slice_split}
use Rattle.std.proofs.lemmas.Bool.{eqb-true, eqb-false}
use Rattle.script.specs.Pieces.{cut, fields_of, before, behind, ended, closed, Apart, EndLaw, FieldLaw}

-- a text with a piece: the first one, and the pieces of the rest
onto-first : (sep c : ℕ) (cs : List ℕ) → (0 < length cs → cut sep [] cs ≡ before sep cs ∷ cut sep [] (behind sep cs)) → onto_first c (cut sep [] cs) ≡ (c ∷ before sep cs) ∷ cut sep [] (behind sep cs)
unfolding cut
onto-first sep c [] first = refl
onto-first sep c (d ∷ ds) first = ap (onto_first c) (first (omega arith))

pub cut_first : (sep : ℕ) (s : List ℕ) → 0 < length s → cut sep [] s ≡ before sep s ∷ cut sep [] (behind sep s)
unfolding cut
cut_first sep [] h = absurd (omega arith)
cut_first sep (c ∷ cs) h = by_test (eqb c sep) (onto-first sep c cs (cut_first sep cs))
  where
    k : ℕ
    k = position_or_len (λ x. eqb x sep) cs

    by_test : (b : Bool) → onto_first c (cut sep [] cs) ≡ (c ∷ before sep cs) ∷ cut sep [] (behind sep cs) → cond b ([] ∷ cut sep [] cs) (onto_first c (cut sep [] cs)) ≡ take (cond (not b) (1 + k) 0) (c ∷ cs) ∷ cut sep [] (drop (cond (not b) (1 + k) 0 + 1) (c ∷ cs))
    by_test true e = refl
    by_test false e = e ∙ simp (one-add, add-one)

module _ (sep c : ℕ) where
  apart-more : (ps : List (List ℕ)) (b : Bool) → eqb c sep ≡ b → Apart sep ps → Apart sep (cond b ([] ∷ ps) (onto_first c ps))
  apart-more ps true e h = (tt, h)
  apart-more [] false e h = ((eqb-false c sep e, tt), tt)
  apart-more (p ∷ ps) false e h = ((eqb-false c sep e, h.0), h.1)

  ended-more : (ps : List (List ℕ)) (b : Bool) → 0 < length ps → eqb c sep ≡ b → ended sep (cond b ([] ∷ ps) (onto_first c ps)) ≡ c ∷ ended sep ps
  unfolding ended
  ended-more [] b h e = absurd (omega arith)
  ended-more (p ∷ ps) true h e = ap (λ x. x ∷ ended sep (p ∷ ps)) (sym (eqb-true c sep e))
  ended-more (p ∷ ps) false h e = refl

  ended-last : (b : Bool) → eqb c sep ≡ b → ended sep (cond b ([] ∷ []) ((c ∷ []) ∷ [])) ≡ cond b (c ∷ []) (c ∷ sep ∷ [])
  unfolding ended
  ended-last true e = ap (λ x. x ∷ []) (sym (eqb-true c sep e))
  ended-last false e = refl

-- the pieces hold no separator
apart-cut : (sep : ℕ) (none : List (List ℕ)) (s : List ℕ) → Apart sep none → Apart sep (cut sep none s)
unfolding cut
apart-cut sep none [] h = h
apart-cut sep none (c ∷ cs) h = apart-more sep c (cut sep none cs) (eqb c sep) refl (apart-cut sep none cs h)

-- the pieces, each ended by the separator
ended-cut : (sep : ℕ) (s : List ℕ) → ended sep (cut sep [] s) ≡ closed sep s
unfolding ended cut closed
ended-cut sep [] = refl
ended-cut sep (c ∷ []) = ended-last sep c (eqb c sep) refl
ended-cut sep (c ∷ d ∷ cs) =
    let some : 0 < length (cut sep [] (d ∷ cs)) = omega (arith, ap length (cut_first sep (d ∷ cs) (omega arith))) in
    ended-more sep c (cut sep [] (d ∷ cs)) (eqb c sep) some refl ∙ ap (λ t. c ∷ t) (ended-cut sep (d ∷ cs))

pub end_law : (sep : ℕ) (s : List ℕ) → EndLaw sep s
end_law sep s = record { whole = ended-cut sep s; apart = apart-cut sep [] s tt }

-- the fields are the parts of the line at its spaces
pub fields-split : (s : List ℕ) → fields_of s ≡ slice_split (λ c. eqb c 32) s
unfolding cut
fields-split [] = refl
fields-split (c ∷ cs) = ap (λ ps. cond (eqb c 32) ([] ∷ ps) (onto_first c ps)) (fields-split cs)

pub fields_count : (s : List ℕ) → length (fields_of s) ≡ count_by (λ c. eqb c 32) s + 1
fields_count s = ap length (fields-split s) ∙ length-slice_split _ s

pub fields_le : (s : List ℕ) → length (fields_of s) ≤ length s + 1
fields_le s = omega (arith, fields_count s, count_by-le-length (λ c. eqb c 32) s)

pub field_law : (s : List ℕ) → FieldLaw s
field_law s = record { whole = ap (join_with_byte 32) (fields-split s) ∙ join_with_byte-slice_split 32 s; apart = apart-cut 32 ([] ∷ []) s (tt, tt) }
