-- A word of a byte image as a chunk of eight bytes: where it lies, and what it is.
use Rattle.std.proofs.Common.{◌≡◌, ℕ, zero, suc, ◌+◌, ◌*◌, ◌/◌, ◌<◌, ◌≤◌, List, [], length, take, drop, slice_index, get_or, sym, ap, ◌∙◌, refl, zero-add, arith}
use Rattle.std.specs.Int.{w64, from_be_bytes}
use Rattle.std.specs.Simd.{first_chunks}
use Rattle.std.proofs.lemmas.List.{get_or-take, get_or-drop, drop-drop}
use Rattle.memory.specs.Buffers.{big_endian_word, word_bytes, overwritten, image_words, image_after}
use Rattle.memory.specs.Images.{length-image, get_or-image, same_word, after_within}

get_or-first_chunks : (k i : ℕ) (xs ys : List ℕ) → i < k → get_or (first_chunks 8 k xs) i ys ≡ take 8 (drop (8 * i) xs)
get_or-first_chunks zero i xs ys lt = absurd (omega arith)
get_or-first_chunks (suc k) zero xs ys lt = refl
get_or-first_chunks (suc k) (suc i) xs ys lt = get_or-first_chunks k i (drop 8 xs) ys (omega arith) ∙ ap (take 8) (drop-drop (8 * i) 8 xs ∙ ap (λ n. drop n xs) (omega arith))

from_be_bytes-chunk : (bytes : List ℕ) (n : ℕ) → from_be_bytes w64 (take 8 (drop n bytes)) ≡ big_endian_word bytes n
from_be_bytes-chunk bytes n =
    let is : from_be_bytes w64 (take 8 (drop n bytes)) ≡ big_endian_word (take 8 (drop n bytes)) 0 = omega arith in
    is ∙ same_word (take 8 (drop n bytes)) bytes 0 n (λ j lt. ap (slice_index (take 8 (drop n bytes))) (zero-add j) ∙ get_or-take 8 (drop n bytes) j 0 lt ∙ get_or-drop n bytes j 0)

module _ (bytes : List ℕ) (a : ℕ) (lt : a < length (image_words bytes)) where
  room : 8 * a + 8 ≤ length bytes
  room = omega (arith, length-image bytes)

  pub word_of_chunk : (k : ℕ) → k ≡ length bytes / 8 → from_be_bytes w64 (get_or (first_chunks 8 k bytes) a []) ≡ slice_index (image_words bytes) a
  word_of_chunk k is =
      ap (from_be_bytes w64) (get_or-first_chunks k a bytes [] (omega (arith, room)))
      ∙ from_be_bytes-chunk bytes (8 * a)
      ∙ sym (get_or-image bytes a (omega (arith, length-image bytes)))

  pub after_is : (w : ℕ) → overwritten bytes (8 * a) (word_bytes w) ≡ image_after bytes a w
  after_is w = after_within bytes a w (omega (arith, length-image bytes))

pub ruleset words_in_bytes = (length-image, word_of_chunk, after_is, drop-drop)
