use Rattle.std.proofs.Common.{length, decimal, ap, arith}
use Rattle.std.proofs.lemmas.Grind.{common_steps}
use Rattle.script.proofs.Rowing.{width_number}
use Rattle.script.proofs.rows.add_fault.Goals as goal

pub returns-clause-few : goal.returns-clause-few
returns-clause-few c =
    grind (arith, common_steps, width_number c.args.fault.refusal, ap (λ n. length (decimal n)) c.number.ensures, ap (λ n. length (decimal n)) c.place.ensures)
