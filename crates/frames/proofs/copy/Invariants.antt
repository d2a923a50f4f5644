use Rattle.std.proofs.Common.{◌≡◌, ◌++◌, take, drop}
use Rattle.frames.proofs.copy.Given as goal

abbrev pub invariant-loop-address : goal.invariant-loop-address
invariant-loop-address g l =
    (g.D.Memory.words l.to ≡ take l.address (g.S.Memory.words l.from) ++ drop l.address (g.D.Memory.words l.initial.to))
    × (g.D.Memory.beyond l.to ≡ g.D.Memory.beyond l.initial.to)
