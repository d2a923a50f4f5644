-- A write through a window.
use Rattle.std.proofs.Common.{◌≡◌, ℕ, ◌+◌, ◌*◌, ◌<◌, List, take, drop, slice_set, ap, sym, ◌∙◌}
use Rattle.std.proofs.Math.Seq.{take-set-lt}
use Rattle.std.proofs.lemmas.List.{drop-set-add, length-set}
use Rattle.std.proofs.lemmas.Grind.{common_steps}
use Rattle.memory.specs.Windows.{start_of, blocks_of, window_words}

pub set_window : (ws : List ℕ) (first count a w : ℕ) → a < 8 * blocks_of ws first count → slice_set (window_words ws first count) a w ≡ window_words (slice_set ws (8 * start_of ws first + a) w) first count
set_window ws first count a w lt =
    sym (simp length-set
    (ap (take (8 * blocks_of ws first count)) (drop-set-add (8 * start_of ws first) ws a w)
    ∙ take-set-lt (8 * blocks_of ws first count) (drop (8 * start_of ws first) ws) a w lt))

pub ruleset window_writes = (set_window, common_steps)
