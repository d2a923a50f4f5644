use Rattle.std.proofs.Common.{rules}
use Rattle.figures.proofs.Bounds.{energy_bound}
use Rattle.figures.proofs.energy_of.Goals as goal

pub sum-requires-clause-fits : goal.sum-requires-clause-fits
sum-requires-clause-fits c =
    let small = energy_bound c.args.bands.now c.told-bands in search (rules, small)

pub returns-clause-small : goal.returns-clause-small
returns-clause-small c =
    let small = energy_bound c.args.bands.now c.told-bands in search (rules, small)
