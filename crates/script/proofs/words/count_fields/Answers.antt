use Rattle.script.proofs.Cutting.{field_law}
use Rattle.script.proofs.words.count_fields.Goals as goal

pub returns-clause-law : goal.returns-clause-law
returns-clause-law c = field_law _
