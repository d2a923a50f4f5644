-- The words that a buffer holds, and what else lies in it.
use Rattle.std.specs.Prelude.{ℕ, ◌+◌, ◌*◌, ◌/◌, ◌%◌, ◌^◌, cond, List, [], ◌∷◌, ◌++◌, map, length, take, drop, nat_lt, slice_index, slice_set}
use Rattle.std.specs.List.{range_with_len}
use Rattle.std.specs.Int.Digits.{number_from_digits}
use Rattle.memory.specs.Words.{whole_blocks}

-- plain words: the whole blocks at the front
abbrev pub plain_words : List ℕ → List ℕ
plain_words buffer = take (8 * whole_blocks (length buffer) 8) buffer

abbrev pub plain_beyond : List ℕ → List (List ℕ)
plain_beyond buffer = drop (8 * whole_blocks (length buffer) 8) buffer ∷ []

-- the buffer after a write of w to address a
abbrev pub plain_after : List ℕ → ℕ → ℕ → List ℕ
plain_after buffer a w = cond (nat_lt a (8 * whole_blocks (length buffer) 8)) (slice_set buffer a w) buffer

-- the big-endian word in the eight bytes from i on: their number in base 256
abbrev pub big_endian_word : List ℕ → ℕ → ℕ
big_endian_word bytes i =
    number_from_digits 256
    (slice_index bytes i ∷ slice_index bytes (i + 1) ∷ slice_index bytes (i + 2) ∷ slice_index bytes (i + 3) ∷ slice_index bytes (i + 4) ∷ slice_index bytes (i + 5) ∷ slice_index bytes (i + 6) ∷ slice_index bytes (i + 7) ∷ [])

-- the eight bytes of a word, the most significant first
abbrev pub word_bytes : ℕ → List ℕ
word_bytes w =
    w / 2 ^ 56 % 256 ∷ w / 2 ^ 48 % 256 ∷ w / 2 ^ 40 % 256 ∷ w / 2 ^ 32 % 256 ∷ w / 2 ^ 24 % 256 ∷ w / 2 ^ 16 % 256 ∷ w / 2 ^ 8 % 256 ∷ w % 256 ∷ []

-- xs with ys written over it from place i on
abbrev pub overwritten : List ℕ → ℕ → List ℕ → List ℕ
overwritten xs i ys = take i xs ++ (ys ++ drop (i + length ys) xs)

-- byte image: the words of the whole blocks of 64 bytes at the front
abbrev pub image_words : List ℕ → List ℕ
image_words bytes = map (λ a. big_endian_word bytes (8 * a)) (range_with_len 0 (8 * whole_blocks (length bytes) 64))

abbrev pub image_beyond : List ℕ → List (List ℕ)
image_beyond bytes = drop (64 * whole_blocks (length bytes) 64) bytes ∷ []

-- the bytes after a write of w to address a
abbrev pub image_after : List ℕ → ℕ → ℕ → List ℕ
image_after bytes a w = cond (nat_lt a (8 * whole_blocks (length bytes) 64)) (overwritten bytes (8 * a) (word_bytes w)) bytes
