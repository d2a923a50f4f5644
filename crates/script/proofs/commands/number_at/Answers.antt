use Rattle.std.proofs.Common.{Err, ap, ◌∙◌, arith}
use Rattle.std.proofs.lemmas.Grind.{common_steps}
use Rattle.script.proofs.Parsing.{missing_number}
use Rattle.script.proofs.commands.number_at.Goals.{in_default-via-in-Some+in_default, in_default-via-in_default}
use Rattle.script.proofs.commands.number_at.Goals as goal

pub returns-in_default : goal.returns-in_default
returns-in_default c =
    ap Err c.refuses.ensures
    ∙ missing_number _ _ (elim c.in_default.branch [
      | in_default-via-in-Some+in_default w ↦ grind (arith, common_steps, c, w)
      | in_default-via-in_default w ↦ grind (arith, common_steps, c, w)
    ])
