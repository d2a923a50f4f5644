use Rattle.std.proofs.Common.{◌≡◌, ◌+◌, ◌*◌, take, drop, ap, ◌∙◌}
use Rattle.memory.specs.Buffers.{image_words}
use Rattle.memory.specs.Windows.{start_of, blocks_of, window_words}
use Rattle.frames.specs.Frames.{count_of}
use Rattle.frames.proofs.Unpacks.{counted, unpacked_so}
use Rattle.frames.proofs.copy_frames.Goals as goal

pub returns-clause-words : goal.returns-clause-words
returns-clause-words g c =
    let w = c.over-window in
    let below = ap g.M.Memory.words w.ensures.below in
    let is = counted c.args.report.now (g.M.Memory.words c.args.table) c.copy_of-frames.result.buffer.items (g.M.Memory.words w.result.below) (g.met.M.Memory.whole c.args.table) w.result.first w.result.count c.copy_of-frames.ensures below w.ensures.first (ap (λ n. 8 * n) w.ensures.count ∙ c.size.ensures.answer) in
    let words : c.in_ok-words.words ≡ count_of (image_words c.copy_of-frames.result.buffer.items) (window_words (g.M.Memory.words w.result.below) w.result.first w.result.count) =
    let answer = c.in_ok-words.ensures.answer in cc in
    words ∙ is

pub returns-clause-table : goal.returns-clause-table
returns-clause-table g c =
    let w = c.over-window in
    let below = ap g.M.Memory.words w.ensures.below in
    let after = c.copy.new.to in
    let kept = c.copy.ensures.beyond in
    let before : take (8 * start_of (g.M.Memory.words after.below) after.first) (g.M.Memory.words after.below) ≡ take (8 * start_of (g.M.Memory.words w.result.below) w.result.first) (g.M.Memory.words w.result.below) = cc in
    let behind : drop (8 * (start_of (g.M.Memory.words after.below) after.first + blocks_of (g.M.Memory.words after.below) after.first after.count)) (g.M.Memory.words after.below) ≡ drop (8 * (start_of (g.M.Memory.words w.result.below) w.result.first + blocks_of (g.M.Memory.words w.result.below) w.result.first w.result.count)) (g.M.Memory.words w.result.below) = cc in
    ap g.M.Memory.words c.into_below.ensures
    ∙ unpacked_so c.args.report.now (g.M.Memory.words c.args.table) c.copy_of-frames.result.buffer.items (g.M.Memory.words w.result.below) (g.met.M.Memory.whole c.args.table) w.result.first w.result.count c.copy_of-frames.ensures below w.ensures.first (ap (λ n. 8 * n) w.ensures.count ∙ c.size.ensures.answer)
    (g.M.Memory.words after.below) after.first after.count c.copy.ensures.after before behind

pub returns-clause-beyond : goal.returns-clause-beyond
returns-clause-beyond g c =
    let kept = c.copy.ensures.beyond in
    let given = c.into_below.ensures in
    let over = c.over-window.ensures.below in
    cc
