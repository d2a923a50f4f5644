use Rattle.std.proofs.Common.{◌≡◌, ℕ, ◌-◌, ◌<◌, ◌≤◌, List, [], length, Bor, inl, inr, ap, ◌∙◌, arith, true-eqb, false-eqb}
use Rattle.std.specs.Iterator.Adapters.{zip_first, zip_second}
use Rattle.std.specs.declared.iter.Zip.{Zip}
use Rattle.std.specs.declared.ops.RangeFrom.{RangeFrom}
use Rattle.script.specs.Pieces.{lines_of}
use Rattle.console.specs.declared.lines.Lines.{Lines}
use Rattle.console.proofs.Looped.{sofar_none, sofar_skip, sofar_stop, sofar_row, sofar_all, numbered}
use Rattle.console.proofs.run.Goals as goal

-- before the first line, where the loop's iterator `it` is the one made of the numbers from 1 on and the script's lines
started : (it made : Zip (RangeFrom ℕ) Lines) (text : Bor (List ℕ)) → it ≡ made → zip_first made ≡ record { start = 1 } → zip_second made ≡ record { rest = text } → (lines_of (zip_second it).rest.now ≡ lines_of text.now) × ((zip_first it).start ≡ 1)
started it made text is first second = (
  ap (λ (z : Zip (RangeFrom ℕ) Lines). lines_of (zip_second z).rest.now) is ∙ ap (λ (lines : Lines). lines_of lines.rest.now) second,
  ap (λ (z : Zip (RangeFrom ℕ) Lines). (zip_first z).start) is ∙ ap (λ (numbers : RangeFrom ℕ). numbers.start) first,
)

pub lines-init : goal.lines-init
lines-init g c =
    let zipped = c.zip-number-items in
    let at_start = started c.into_iter-number-iterator.result zipped.result c.args.script c.into_iter-number-iterator.ensures.into_iter_gives zipped.ensures.first zipped.ensures.second in
    sofar_none g.M.Memory.beyond g.B.Book.holding g.B.Book.moves _ _ _ _ _ _ at_start.0 at_start.1

pub lines-preserved-then-not-is_empty : goal.lines-preserved-then-not-is_empty
lines-preserved-then-not-is_empty g c =
    let steps = c.in-Some.ensures.steps in
    let filled : 0 < length c.in-Some.line.now = omega (arith, false-eqb _ 0 c.if-not-is_empty.ensures) in
    let free : 64 ≤ length c.args.report.now - c.lines.fill = omega (arith, c.lines.auto.report) in
    let line = c.run_line-outcome.ensures in
    let row = c.add_row-fill.ensures in
    sofar_row g.M.Memory.beyond g.B.Book.holding g.B.Book.moves _ _ _ _ _ _ _ _ _ _ c.lines.invariant c.in-Some.number _ steps.0.0 steps.0.1 c.in-Some.line.now _ steps.1 filled free _ _ _ _ _ row.count row.short row.after line.text line.step line.own line.beyond

pub lines-preserved : goal.lines-preserved
lines-preserved g c =
    let steps = c.in-Some.ensures.steps in
    sofar_skip g.M.Memory.beyond g.B.Book.holding g.B.Book.moves _ _ _ _ _ _ _ _ _ _ c.lines.invariant c.in-Some.number _ steps.0.0 steps.0.1 c.in-Some.line.now _ steps.1 (true-eqb _ 0 c.if-not-is_empty.ensures)

pub returns-then-report-fill-lt64 : goal.returns-then-report-fill-lt64
returns-then-report-fill-lt64 g c =
    let steps = c.in-Some.ensures.steps in
    let filled : 0 < length c.in-Some.line.now = omega (arith, false-eqb _ 0 c.if-not-is_empty.ensures) in
    let little : length c.args.report.now - c.lines.fill < 64 = omega (arith, c.lines.auto.report) in
    sofar_stop g.M.Memory.beyond g.B.Book.holding g.B.Book.moves _ _ _ _ _ _ _ _ _ _ c.lines.invariant c.in-Some.number _ steps.0.0 steps.0.1 c.in-Some.line.now _ steps.1 filled little c.refuses.result c.refuses.ensures

-- the numbers do not end before the lines do
pub returns : goal.returns
returns g c =
    let few = numbered g.M.Memory.beyond g.B.Book.holding g.B.Book.moves _ _ _ _ _ _ _ _ _ _ c.lines.invariant in
    let none : lines_of (zip_second c.lines.number-iterator).rest.now ≡ [] =
    elim c.in-None.ensures.steps [ inl ended ↦ absurd (omega (arith, few, ended.1.0)) | inr done ↦ done.1.0 ] in
    sofar_all g.M.Memory.beyond g.B.Book.holding g.B.Book.moves _ _ _ _ _ _ _ _ _ _ c.lines.invariant none
