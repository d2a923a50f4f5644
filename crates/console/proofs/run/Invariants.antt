use Rattle.std.specs.Iterator.Adapters.{zip_first, zip_second}
use Rattle.script.specs.Pieces.{lines_of}
use Rattle.store.specs.States.{state_of}
use Rattle.console.proofs.Looped.{Sofar}
use Rattle.console.proofs.run.Given as goal

abbrev pub invariant-lines : goal.invariant-lines
invariant-lines g l =
    Sofar g.M.Memory.beyond g.B.Book.holding g.B.Book.moves (state_of g.M.Memory.words g.B.Book.holding l.initial.store) l.initial.store l.script l.initial.report (lines_of (zip_second l.number-iterator).rest.now) (zip_first l.number-iterator).start l.fill l.report (state_of g.M.Memory.words g.B.Book.holding l.store) l.store
