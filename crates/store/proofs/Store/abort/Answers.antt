use Rattle.std.proofs.Common.{rules}
use Rattle.store.proofs.Step.{carries}
use Rattle.store.proofs.Store.abort.Goals as goal

pub returns-in_err-judge-clause-step : goal.returns-in_err-judge-clause-step
returns-in_err-judge-clause-step g c = carries (g.met.B.Book.sound _) (g.met.M.Memory.whole _) (search rules) (search rules)

pub returns-clause-step : goal.returns-clause-step
returns-clause-step g c = carries (g.met.B.Book.sound _) (g.met.M.Memory.whole _) (search rules) (search rules)
