-- The bytes that a memory is lent, given back, and the numbers of an answer written.
use Rattle.std.proofs.Common.{◌≡◌, ℕ, zero, suc, ◌+◌, ◌*◌, ◌/◌, ◌≤◌, min, List, [], ◌∷◌, ◌++◌, length, slice_index_or, set, take, drop, refl, ap, ◌∙◌, length-drop, length-take, arith}
use Rattle.memory.specs.Buffers.{image_words, image_beyond}
use Rattle.memory.specs.Images.{length-image}

-- a memory's buffer keeps its length
pub same_length : (a b : List ℕ) → length (image_words b) ≡ length (image_words a) → image_beyond b ≡ image_beyond a → length b ≡ length a
same_length a b words beyond =
    omega (
      arith,
      length-image a,
      length-image b,
      words,
      ap (λ parts. length (slice_index_or parts 0 [])) beyond,
      length-drop (64 * min (length a / 64) 64) a,
      length-drop (64 * min (length b / 64) 64) b,
    )

-- a memory over what a table lends has as many bytes as it lends
pub length_is : (table : List ℕ) {given : List ℕ} (bytes : List ℕ) → length bytes ≡ length given → given ≡ take 4096 table → length bytes ≡ min (length table) 4096
length_is table bytes kept lent = omega (arith, kept, ap length lent, length-take 4096 table)

-- four numbers written one after the other
stepped : (at : ℕ) (xs : List ℕ) (a b c d : ℕ) → at + 4 ≤ length xs → set (set (set (set xs at a) (suc at) b) (suc (suc at)) c) (suc (suc (suc at))) d ≡ take at xs ++ (a ∷ b ∷ c ∷ d ∷ [] ++ drop 4 (drop at xs))
stepped zero [] a b c d l = absurd (let z : ⊥ = omega arith in z)
stepped zero (x ∷ []) a b c d l = absurd (let z : ⊥ = omega arith in z)
stepped zero (x ∷ y ∷ []) a b c d l = absurd (let z : ⊥ = omega arith in z)
stepped zero (x ∷ y ∷ z ∷ []) a b c d l = absurd (let z : ⊥ = omega arith in z)
stepped zero (x ∷ y ∷ z ∷ u ∷ xs) a b c d l = refl
stepped (suc at) [] a b c d l = absurd (let z : ⊥ = omega arith in z)
stepped (suc at) (x ∷ xs) a b c d l = ap (λ ys. x ∷ ys) (stepped at xs a b c d (omega arith))

pub written : (at : ℕ) (xs : List ℕ) (a b c d : ℕ) → at + 4 ≤ length xs → set (set (set (set xs at a) (at + 1) b) (at + 2) c) (at + 3) d ≡ take at xs ++ (a ∷ b ∷ c ∷ d ∷ [] ++ drop 4 (drop at xs))
written at xs a b c d l =
    let one : at + 1 ≡ suc at = omega arith in
    let two : at + 2 ≡ suc (suc at) = omega arith in
    let three : at + 3 ≡ suc (suc (suc at)) = omega arith in
    (λ i. set (set (set (set xs at a) (one i) b) (two i) c) (three i) d) ∙ stepped at xs a b c d l
