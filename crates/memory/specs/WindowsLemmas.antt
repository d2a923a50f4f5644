-- The words of a window, and a write through it.
use Rattle.std.specs.Prelude.{◌≡◌, ℕ, ◌+◌, ◌*◌, ◌<◌, List, [], ◌∷◌, ◌++◌, length, take, drop, set, slice_index, slice_set, refl}
use Rattle.std.proofs.Common.{ap, sym, ◌∙◌, arith}
use Rattle.std.proofs.Math.Seq.{take-set-lt}
use Rattle.std.proofs.lemmas.List.{length-take-le, length-drop, length-set, get_or-take, get_or-drop, take-set-le, drop-set-lt, drop-set-add, drop-drop, take-append-drop}
use Rattle.memory.specs.Words.{Whole, read_answer, write_answer}
use Rattle.memory.specs.Windows.{start_of, blocks_of, window_words, window_beyond}
use Rattle.memory.specs.Answered.{read_within, write_within}
use Rattle.memory.specs.Fronts.{whole_from}

module _ (ws : List ℕ) (whole : Whole ws) (first count : ℕ) where
  pub length-window : length (window_words ws first count) ≡ 8 * blocks_of ws first count
  length-window = length-take-le (8 * blocks_of ws first count) (drop (8 * start_of ws first) ws) (simp length-drop (omega arith))

  pub whole_window : Whole (window_words ws first count)
  whole_window = whole_from (window_words ws first count) (blocks_of ws first count) length-window (omega arith)

  -- an address of the window, and the one below that it stands for
  module _ (a : ℕ) (lt : a < 8 * blocks_of ws first count) (at : ℕ) (is : at ≡ 8 * start_of ws first + a) where
    within : at < length ws
    within = omega arith

    pub window-read : read_answer ws at ≡ read_answer (window_words ws first count) a
    window-read =
        sym (read_within ws at _ within refl)
        ∙ read_within (window_words ws first count) a _ (omega (arith, length-window))
        (ap (λ i. slice_index ws i) is
        ∙ sym (get_or-drop (8 * start_of ws first) ws a 0)
        ∙ sym (get_or-take (8 * blocks_of ws first count) (drop (8 * start_of ws first) ws) a 0 lt))

    pub window-write : write_answer ws at ≡ write_answer (window_words ws first count) a
    window-write = sym (write_within ws at within) ∙ write_within (window_words ws first count) a (omega (arith, length-window))

    module _ (w : ℕ) (after : List ℕ) (set_below : after ≡ slice_set ws at w) where
      written : after ≡ slice_set ws (8 * start_of ws first + a) w
      written = set_below ∙ ap (λ i. set ws i w) is

      pub window-set : window_words after first count ≡ slice_set (window_words ws first count) a w
      window-set =
          ap (λ l. window_words l first count) written
          ∙ simp length-set
          (ap (take (8 * blocks_of ws first count)) (drop-set-add (8 * start_of ws first) ws a w)
          ∙ take-set-lt (8 * blocks_of ws first count) (drop (8 * start_of ws first) ws) a w lt)

      pub window-beyond-set : window_beyond after first count ≡ window_beyond ws first count
      window-beyond-set =
          ap (λ l. window_beyond l first count) written
          ∙ simp length-set
          (ap (λ l. l ∷ drop (8 * (start_of ws first + blocks_of ws first count)) (slice_set ws (8 * start_of ws first + a) w) ∷ []) (take-set-le (8 * start_of ws first) ws (8 * start_of ws first + a) w (omega arith))
          ∙ ap (λ l. take (8 * start_of ws first) ws ∷ l ∷ []) (drop-set-lt (8 * (start_of ws first + blocks_of ws first count)) ws (8 * start_of ws first + a) w (omega arith)))

-- what lies before the window, the window and what lies behind it are all that is below
pub window_rejoined : (ws : List ℕ) (first count : ℕ) → take (8 * start_of ws first) ws ++ (window_words ws first count ++ drop (8 * (start_of ws first + blocks_of ws first count)) ws) ≡ ws
window_rejoined ws first count =
    ap (λ l. take (8 * start_of ws first) ws ++ (window_words ws first count ++ l))
    (ap (λ n. drop n ws) (omega arith) ∙ sym (drop-drop (8 * blocks_of ws first count) (8 * start_of ws first) ws))
    ∙ ap (λ l. take (8 * start_of ws first) ws ++ l) (take-append-drop (8 * blocks_of ws first count) (drop (8 * start_of ws first) ws))
    ∙ take-append-drop (8 * start_of ws first) ws
