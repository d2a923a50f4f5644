-- The whole blocks at the front of a buffer.
use Rattle.std.specs.Prelude.{◌≡◌, ℕ, ◌*◌, ◌<◌, ◌≤◌, List, [], ◌∷◌, length, slice_set}
use Rattle.std.proofs.Common.{ap, sym, ◌∙◌, ⊎_elim, arith}
use Rattle.std.proofs.Math.Seq.{take-set-lt}
use Rattle.std.proofs.lemmas.List.{length-take-le, length-set, drop-set-lt, set_past}
use Rattle.std.proofs.lemmas.Bool.{cases_lt, cond-true, cond-false, lt-ltb, le-ltb}
use Rattle.memory.specs.Words.{Whole, whole_blocks}
use Rattle.memory.specs.Buffers.{plain_words, plain_beyond, plain_after}

pub whole_from : (ws : List ℕ) (n : ℕ) → length ws ≡ 8 * n → n ≤ 64 → Whole ws
whole_from ws n e le = (omega arith, omega arith)

pub whole_counted : (ws : List ℕ) (items block : ℕ) → length ws ≡ 8 * whole_blocks items block → Whole ws
whole_counted ws items block e = whole_from ws (whole_blocks items block) e (omega arith)

pub length-plain : (buffer : List ℕ) → length (plain_words buffer) ≡ 8 * whole_blocks (length buffer) 8
length-plain buffer = length-take-le (8 * whole_blocks (length buffer) 8) buffer (omega arith)

pub whole_plain : (buffer : List ℕ) → Whole (plain_words buffer)
whole_plain buffer = whole_counted (plain_words buffer) (length buffer) 8 (length-plain buffer)

-- a write within the blocks is a write to their words, and leaves what lies behind
module _ (buffer : List ℕ) (a w : ℕ) (lt : a < 8 * whole_blocks (length buffer) 8) where
  pub plain_set : plain_words (slice_set buffer a w) ≡ slice_set (plain_words buffer) a w
  plain_set = simp length-set (take-set-lt _ buffer a w lt)

  pub plain_beyond_set : plain_beyond (slice_set buffer a w) ≡ plain_beyond buffer
  plain_beyond_set = simp length-set (ap (λ l. l ∷ []) (drop-set-lt _ buffer a w lt))

-- a write to any address: past the blocks it alters nothing
module _ (buffer : List ℕ) (a w : ℕ) where
  within : a < 8 * whole_blocks (length buffer) 8 → plain_after buffer a w ≡ slice_set buffer a w
  within lt = cond-true _ _ _ (lt-ltb a (8 * whole_blocks (length buffer) 8) lt)

  past : 8 * whole_blocks (length buffer) 8 ≤ a → plain_after buffer a w ≡ buffer
  past le = cond-false _ _ _ (le-ltb a (8 * whole_blocks (length buffer) 8) le)

  pub plain_after-past : length (plain_words buffer) ≤ a → plain_after buffer a w ≡ buffer
  plain_after-past le = past (omega (arith, length-plain buffer))

  pub plain_words-after : plain_words (plain_after buffer a w) ≡ slice_set (plain_words buffer) a w
  plain_words-after =
      ⊎_elim
      (λ lt. ap plain_words (within lt) ∙ plain_set buffer a w lt)
      (λ le. ap plain_words (past le) ∙ sym (set_past _ _ _ (omega (arith, length-plain buffer))))
      (cases_lt a (8 * whole_blocks (length buffer) 8))

  pub plain_beyond-after : plain_beyond (plain_after buffer a w) ≡ plain_beyond buffer
  plain_beyond-after =
      ⊎_elim
      (λ lt. ap plain_beyond (within lt) ∙ plain_beyond_set buffer a w lt)
      (λ le. ap plain_beyond (past le))
      (cases_lt a (8 * whole_blocks (length buffer) 8))
