use Rattle.std.proofs.Common.{sym, ◌∙◌, rules, tests}
use Rattle.std.proofs.lemmas.Iterator.{YieldsList-from_slice}
use Rattle.script.specs.Numerals.{pushed}
use Rattle.script.proofs.Reading.{none_unopened, number-tried, reads_number}
use Rattle.script.proofs.Trying.{tried_from_yields_List}
use Rattle.script.proofs.decimal.number.Goals as goal

pub returns-then-not-opens_number : goal.returns-then-not-opens_number
returns-then-not-opens_number c =
    let is = sym (none_unopened c.args.field.now (sym c.if-not-opens_number.ensures)) in
    record { answer = is; writing = reads_number _ _ is }

pub returns : goal.returns
returns c =
    let is = tried_from_yields_List _ (λ x. x.now) _ pushed _ (λ a x r q k. search (rules, tests))
    (YieldsList-from_slice c.args.field.now cc) 0 _ _ c.try_fold.ensures.ran
    ∙ number-tried c.args.field.now (sym c.if-not-opens_number.ensures) in
    record { answer = is; writing = reads_number _ _ is }
