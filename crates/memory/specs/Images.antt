-- The words of a byte image.
use Rattle.std.specs.Prelude.{◌≡◌, ℕ, ◌+◌, ◌-◌, ◌*◌, ◌^◌, ◌<◌, ◌≤◌, ◌≢◌, List, [], ◌∷◌, ◌++◌, length, take, drop, slice_index, slice_index_or, slice_set, refl}
use Rattle.std.proofs.Common.{ap, sym, ◌∙◌, ⊎_elim, add-zero, zero-add, arith, lit<}
use Rattle.std.specs.Int.Digits.{number_from_digits}
use Rattle.std.proofs.lemmas.List.{length-append, length-take-le, length-drop, get_or_append_left, get_or-append_right, get_or-take, get_or-drop, get_or-set_same, get_or-set_other, length-set, set_past, ext_get_or}
use Rattle.std.proofs.lemmas.Bool.{cases_lt, cases_eq, cond-true, cond-false, lt-ltb, le-ltb}
use Rattle.std.proofs.lemmas.List.FromFn.{length-map-range_with_len, get_or-map-range_with_len}
use Rattle.memory.specs.Words.{Whole, whole_blocks}
use Rattle.memory.specs.Buffers.{big_endian_word, word_bytes, overwritten, image_words, image_beyond, image_after}
use Rattle.memory.specs.Fronts.{whole_counted}

pub length-image : (bytes : List ℕ) → length (image_words bytes) ≡ 8 * whole_blocks (length bytes) 64
length-image bytes = length-map-range_with_len (λ a. big_endian_word bytes (8 * a)) 0 (8 * whole_blocks (length bytes) 64)

pub whole_image : (bytes : List ℕ) → Whole (image_words bytes)
whole_image bytes = whole_counted (image_words bytes) (length bytes) 64 (length-image bytes)

pub get_or-image : (bytes : List ℕ) (a : ℕ) → a < 8 * whole_blocks (length bytes) 64 → slice_index (image_words bytes) a ≡ big_endian_word bytes (8 * a)
get_or-image bytes a lt = get_or-map-range_with_len (λ k. big_endian_word bytes (8 * k)) 0 (8 * whole_blocks (length bytes) 64) a a 0 lt (omega arith)

-- the bytes of a word write it again
pub word_back : (w : ℕ) → w < 2 ^ 64 → number_from_digits 256 (word_bytes w) ≡ w
word_back w lt = omega arith

-- a list with another written over it, place by place
module _ (xs : List ℕ) (i : ℕ) (ys : List ℕ) (room : i + length ys ≤ length xs) where
  length_front : length (take i xs) ≡ i
  length_front = length-take-le i xs (omega arith)

  pub length-overwritten : length (overwritten xs i ys) ≡ length xs
  length-overwritten = simp (length-append, length-drop) (omega (arith, length_front))

  pub get_or-overwritten-inside : (j : ℕ) → j < length ys → slice_index (overwritten xs i ys) (i + j) ≡ slice_index ys j
  get_or-overwritten-inside j lt =
      get_or-append_right (take i xs) _ i (i + j) 0 length_front (omega arith)
      ∙ ap (λ k. slice_index (ys ++ drop (i + length ys) xs) k) (omega arith)
      ∙ get_or_append_left ys _ 0 j lt

  pub get_or-overwritten-before : (k : ℕ) → k < i → slice_index (overwritten xs i ys) k ≡ slice_index xs k
  get_or-overwritten-before k lt = get_or_append_left (take i xs) _ 0 k (omega (arith, length_front)) ∙ get_or-take i xs k 0 lt

  pub get_or-overwritten-behind : (k : ℕ) → i + length ys ≤ k → slice_index (overwritten xs i ys) k ≡ slice_index xs k
  get_or-overwritten-behind k le =
      get_or-append_right (take i xs) _ i k 0 length_front (omega arith)
      ∙ get_or-append_right ys _ (length ys) (k - i) 0 refl (omega arith)
      ∙ get_or-drop (i + length ys) xs _ 0
      ∙ ap (λ n. slice_index xs n) (omega arith)

  pub drop-overwritten : (n : ℕ) → i + length ys ≤ n → drop n (overwritten xs i ys) ≡ drop n xs
  drop-overwritten n le =
      ext_get_or 0 _ _ (simp length-drop (omega (arith, length-overwritten)))
      (λ k lt. get_or-drop n _ k 0 ∙ get_or-overwritten-behind (n + k) (omega arith) ∙ sym (get_or-drop n xs k 0))

-- the eight bytes decide the word
pub same_word : (bs cs : List ℕ) (i k : ℕ) → ((j : ℕ) → j < 8 → slice_index bs (i + j) ≡ slice_index cs (k + j)) → big_endian_word bs i ≡ big_endian_word cs k
same_word bs cs i k h =
    let first : slice_index_or bs i 0 ≡ slice_index_or cs k 0 = rw (add-zero, add-zero) at (h 0 (lit< tt)) in
    omega (arith, first, h 1 (lit< tt), h 2 (lit< tt), h 3 (lit< tt), h 4 (lit< tt), h 5 (lit< tt), h 6 (lit< tt), h 7 (lit< tt))

-- one word's bytes written within the blocks
module _ (bytes : List ℕ) (a w : ℕ) (lt : a < 8 * whole_blocks (length bytes) 64) (fits : w < 2 ^ 64) (after : List ℕ) (is : after ≡ overwritten bytes (8 * a) (word_bytes w)) where
  room : 8 * a + 8 ≤ length bytes
  room = omega arith

  pub image_length-kept : length after ≡ length bytes
  image_length-kept = ap length is ∙ length-overwritten bytes (8 * a) (word_bytes w) room

  written : big_endian_word after (8 * a) ≡ w
  written =
      same_word after (word_bytes w) (8 * a) 0
      (λ j h. ap (λ l. slice_index l (8 * a + j)) is ∙ get_or-overwritten-inside bytes (8 * a) (word_bytes w) room j h ∙ ap (λ k. slice_index (word_bytes w) k) (sym (zero-add j)))
      ∙ word_back w fits

  other : (k : ℕ) → k ≢ a → big_endian_word after (8 * k) ≡ big_endian_word bytes (8 * k)
  other k ne =
      same_word after bytes (8 * k) (8 * k)
      (λ j h. ap (λ l. slice_index l (8 * k + j)) is ∙ ⊎_elim
      (λ below. get_or-overwritten-before bytes (8 * a) (word_bytes w) room (8 * k + j) (omega arith))
      (λ above. get_or-overwritten-behind bytes (8 * a) (word_bytes w) room (8 * k + j) (omega (arith, ne)))
      (cases_lt k a))

  pub image_set : image_words after ≡ slice_set (image_words bytes) a w
  image_set =
      let same : 8 * whole_blocks (length after) 64 ≡ 8 * whole_blocks (length bytes) 64 = ap (λ n. 8 * whole_blocks n 64) image_length-kept in
      ext_get_or 0 _ _ (length-image after ∙ same ∙ sym (length-image bytes) ∙ sym (length-set (image_words bytes) a w))
      (λ k h.
      let inside : k < 8 * whole_blocks (length bytes) 64 = omega (arith, length-image after, same) in
      get_or-image after k (omega arith) ∙ ⊎_elim
      (λ here. ap (λ i. big_endian_word after (8 * i)) here ∙ written ∙ sym (ap (λ i. slice_index (slice_set (image_words bytes) a w) i) here ∙ get_or-set_same (image_words bytes) a w 0 (omega (arith, length-image bytes))))
      (λ ne. other k ne ∙ sym (get_or-set_other (image_words bytes) a k w 0 ne ∙ get_or-image bytes k inside))
      (cases_eq k a))

  pub image_beyond_set : image_beyond after ≡ image_beyond bytes
  image_beyond_set =
      ap (λ n. drop (64 * whole_blocks n 64) after ∷ []) image_length-kept
      ∙ ap (λ l. drop (64 * whole_blocks (length bytes) 64) l ∷ []) is
      ∙ ap (λ l. l ∷ []) (drop-overwritten bytes (8 * a) (word_bytes w) room _ (omega arith))

pub after_within : (bytes : List ℕ) (a w : ℕ) → a < 8 * whole_blocks (length bytes) 64 → overwritten bytes (8 * a) (word_bytes w) ≡ image_after bytes a w
after_within bytes a w lt = sym (cond-true _ _ _ (lt-ltb a (8 * whole_blocks (length bytes) 64) lt))

pub after_past : (bytes : List ℕ) (a w : ℕ) → 8 * whole_blocks (length bytes) 64 ≤ a → bytes ≡ image_after bytes a w
after_past bytes a w le = sym (cond-false _ _ _ (le-ltb a (8 * whole_blocks (length bytes) 64) le))

-- a write to any address: past the blocks it alters nothing
module _ (bytes : List ℕ) (a w : ℕ) where
  pub image_after-past : length (image_words bytes) ≤ a → image_after bytes a w ≡ bytes
  image_after-past le = sym (after_past bytes a w (omega (arith, length-image bytes)))

  pub image_words-after : w < 2 ^ 64 → image_words (image_after bytes a w) ≡ slice_set (image_words bytes) a w
  image_words-after fits =
      ⊎_elim
      (λ lt. image_set bytes a w lt fits _ (sym (after_within bytes a w lt)))
      (λ le. ap image_words (sym (after_past bytes a w le)) ∙ sym (set_past _ _ _ (omega (arith, length-image bytes))))
      (cases_lt a (8 * whole_blocks (length bytes) 64))

  pub image_beyond-after : w < 2 ^ 64 → image_beyond (image_after bytes a w) ≡ image_beyond bytes
  image_beyond-after fits =
      ⊎_elim
      (λ lt. image_beyond_set bytes a w lt fits _ (sym (after_within bytes a w lt)))
      (λ le. ap image_beyond (sym (after_past bytes a w le)))
      (cases_lt a (8 * whole_blocks (length bytes) 64))
