use Rattle.std.proofs.Common.{arith}
use Rattle.memory.proofs.Lent.{used_is}
use Rattle.memory.proofs.image.front.Goals as goal

pub returns-clause-value : goal.returns-clause-value
returns-clause-value c = used_is c.args.limit c.args.bytes.now c.min.result (omega (arith, c.min.ensures))
