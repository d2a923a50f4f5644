use Rattle.std.proofs.Common.{◌∷◌, ◌++◌, decimal, ap, ◌∙◌, arith, rules}
use Rattle.std.proofs.lemmas.List.{drop_all}
use Rattle.script.specs.Rows.{outcome_text}
use Rattle.script.proofs.Rowing.{width}
use Rattle.script.proofs.rows.write_row.Goals as goal

pub write_digits-requires : goal.write_digits-requires
write_digits-requires c = search (rules, width)

pub returns-clause-text : goal.returns-clause-text
returns-clause-text c =
    c.write_digits.ensures.written
    ∙ ap (λ t. decimal c.args.line ++ t) (c.add_outcome-end.ensures.text
    ∙ ap (λ t. outcome_text c.args.outcome ++ t) (c.add_text-end.ensures.text ∙ ap (λ t. 10 ∷ t) (drop_all 68 c.args.row.now (omega arith))))

pub returns-clause-short : goal.returns-clause-short
returns-clause-short c = λ h. omega (arith, width c.args.line c.ranges.line.fits, c.add_outcome-end.ensures.short h)
