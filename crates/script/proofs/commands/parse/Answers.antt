use Rattle.std.proofs.Common.{Err, ap, ◌∙◌, arith, rules}
use Rattle.std.proofs.lemmas.Grind.{common_steps}
use Rattle.script.proofs.Cutting.{fields_le}
use Rattle.script.proofs.Parsing.{parse_lone, parse_spaced, parse_other}
use Rattle.script.proofs.commands.parse.Goals as goal

pub overflow_add-count_fields : goal.overflow_add-count_fields
overflow_add-count_fields c = grind (arith, common_steps, fields_le)

pub returns-in-len1 : goal.returns-in-len1
returns-in-len1 c = c.call_named.ensures ∙ parse_lone c.args.line.now (search rules)

pub returns-in-32 : goal.returns-in-32
returns-in-32 c = c.call_named-in-32.ensures ∙ parse_spaced c.args.line.now _ c.count_fields.ensures.count (search rules) (search rules)

pub returns-in-empty : goal.returns-in-empty
returns-in-empty c = ap Err c.refuses.ensures ∙ parse_other c.args.line.now (λ e. search rules) (λ h. search rules)
