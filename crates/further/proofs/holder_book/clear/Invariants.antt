use Rattle.further.proofs.Blocks.{Cleared}
use Rattle.further.proofs.holder_book.clear.Given as goal

abbrev pub invariant-loop-holders : goal.invariant-loop-holders
invariant-loop-holders l = Cleared l.initial.blocks l.thread.number l.holders-index l.held l.blocks
