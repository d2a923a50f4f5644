use Rattle.std.proofs.Common.{rules, ◌*◌, ◌^◌, arith}
use Rattle.std.specs.List.{zip}
use Rattle.std.proofs.lemmas.Iterator.{YieldsList-from_slice, YieldsList-from_zip, YieldsList-from_map}
use Rattle.std.proofs.lemmas.Iterator.Consumers.{YieldsList-at, fits_by_from_yields_list}
use Rattle.figures.specs.Figures.{counted, frequencies}
use Rattle.figures.proofs.Bounds.{weighted_bound}
use Rattle.figures.proofs.weighted_of.Goals as goal

pub sum-requires-clause-fits : goal.sum-requires-clause-fits
sum-requires-clause-fits c =
    fits_by_from_yields_list (λ b. counted b.0 * (b.1 * b.1)) (zip c.args.bands.now frequencies)
    c.map.result (2 ^ 64)
    (YieldsList-from_map _ (λ b. counted b.0 * (b.1 * b.1))
    (YieldsList-at c.map.ensures.source
    (YieldsList-from_zip (YieldsList-from_slice c.args.bands.now cc)
    (YieldsList-from_slice frequencies cc)))
    c.map.ensures.closure (λ x r q k. search rules))
    (omega (arith, weighted_bound c.args.bands.now c.told-bands))
