use Rattle.std.proofs.Common.{eqb, sym, ap, ◌∙◌, rules, tests}
use Rattle.std.specs.List.{slice_get}
use Rattle.std.proofs.lemmas.Iterator.Consumers.{nth_from_yields_List}
use Rattle.std.proofs.lemmas.Iterator.Splits.{YieldsList-from_slice_split}
use Rattle.script.proofs.Cutting.{fields-split}
use Rattle.script.proofs.words.field_behind.Goals as goal

pub returns : goal.returns
returns c =
    nth_from_yields_List _ _ c.args.others c.nth.ensures.ran
    (YieldsList-from_slice_split _ (λ b. eqb b 32) c.args.line.now c.split.ensures.rest c.split.ensures.done c.split.ensures.closure (λ x r q k. search (rules, tests)))
    ∙ ap (λ fs. slice_get fs c.args.others) (sym (fields-split c.args.line.now))
