use Rattle.std.proofs.Common.{◌≡◌, ◌+◌, ◌*◌, ◌≤◌, false, map, take, sum_by}
use Rattle.marks.specs.Rules.{state_in}
use Rattle.marks.specs.States.{debit_of}
use Rattle.book.specs.Picture.{debit_in, any_writer}
use Rattle.board.proofs.block.Block.tokens.Given as goal

abbrev pub invariant-copies : goal.invariant-copies
invariant-copies l =
    (l.sum.tokens ≤ 64 * (l.copy-index + 1))
    × (l.sum.tokens ≡ debit_of l.self.home.state + sum_by debit_in (take l.copy-index (map state_in l.self.copies)))
    × (any_writer (take l.copy-index (map state_in l.self.copies)) ≡ false)
