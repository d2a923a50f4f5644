use Rattle.std.proofs.Common.{Ok, subst, arith}
use Rattle.std.proofs.lemmas.Grind.{common_steps}
use Rattle.script.specs.Rows.{Within}
use Rattle.script.proofs.Rowing.{width_pair}
use Rattle.script.proofs.rows.add_answer.Goals as goal

pub returns-in-Ended-clause-short : goal.returns-in-Ended-clause-short
returns-in-Ended-clause-short c = λ h.
    let few = width_pair c.in-Ended.records c.in-Ended.figure (subst (λ a. Within (Ok a)) c.in-Ended.is h) in
    grind (arith, common_steps, few)
