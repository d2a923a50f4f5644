use Rattle.std.proofs.Common.{◌≤◌, ◌-◌, ◌^◌, length, arith, rules, tests}
use Rattle.std.proofs.lemmas.Iterator.{YieldsList-from_slice}
use Rattle.std.proofs.lemmas.Iterator.Adapters.{fits_from_length, at_most_from_yields_List}
use Rattle.script.proofs.words.count_spaces.Goals as goal

-- a slice has fewer than 2 ^ 63 bytes, and each counts for one at most
pub sum-requires-clause-fits : goal.sum-requires-clause-fits
sum-requires-clause-fits c =
    let short : length c.args.line.now ≤ 2 ^ 63 - 1 = search rules in
    fits_from_length _ _ (2 ^ 63 - 1) (2 ^ 64)
    (at_most_from_yields_List (YieldsList-from_slice c.args.line.now cc) short)
    c.map.ensures.closure (omega arith) (λ x r q k. search (rules, tests))
