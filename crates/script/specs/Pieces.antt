-- The lines of a script and the fields of a line: bytes cut at a separator.
use Rattle.std.specs.Prelude.{◌≡◌, ℕ, cond, List, [], ◌∷◌, ◌++◌, ◌==◌, ◌≢◌}
use Rattle.std.specs.List.{AllByRecursion, onto_first, before_first, after_first, join_with_byte}

-- the pieces between the separators, with `none` for those of an empty text
unfoldable pub cut : ℕ → List (List ℕ) → List ℕ → List (List ℕ)
cut sep none [] = none
cut sep none (c ∷ cs) = cond (c == sep) ([] ∷ cut sep none cs) (onto_first c (cut sep none cs))

-- an empty script has no line, and no line follows a final byte 10
abbrev pub lines_of : List ℕ → List (List ℕ)
lines_of script = cut 10 [] script

-- a line has one field more than spaces
abbrev pub fields_of : List ℕ → List (List ℕ)
fields_of line = cut 32 ([] ∷ []) line

-- the bytes before the first separator, and those behind it
abbrev pub before : ℕ → List ℕ → List ℕ
before sep text = before_first (λ c. c == sep) text

abbrev pub behind : ℕ → List ℕ → List ℕ
behind sep text = after_first (λ c. c == sep) text

-- the pieces, each with the separator behind it
unfoldable pub ended : ℕ → List (List ℕ) → List ℕ
ended sep [] = []
ended sep (p ∷ ps) = p ++ (sep ∷ ended sep ps)

-- the text with the separator at its end, unless it is empty
unfoldable pub closed : ℕ → List ℕ → List ℕ
closed sep [] = []
closed sep (c ∷ []) = cond (c == sep) (c ∷ []) (c ∷ sep ∷ [])
closed sep (c ∷ d ∷ cs) = c ∷ closed sep (d ∷ cs)

-- no piece holds a separator
abbrev pub Apart : ℕ → List (List ℕ) → Type 0
Apart sep ps = AllByRecursion (λ p. AllByRecursion (λ c. c ≢ sep) p) ps

-- the pieces, each ended by the separator, are the text with its last piece ended
pub record EndLaw (sep : ℕ) (text : List ℕ) : Type 0 where
  pub whole : ended sep (cut sep [] text) ≡ closed sep text
  pub apart : Apart sep (cut sep [] text)

-- the fields joined by a space are the line
pub record FieldLaw (line : List ℕ) : Type 0 where
  pub whole : join_with_byte 32 (fields_of line) ≡ line
  pub apart : Apart 32 (fields_of line)
