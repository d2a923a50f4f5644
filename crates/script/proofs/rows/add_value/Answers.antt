use Rattle.std.proofs.Common.{arith}
use Rattle.script.proofs.Rowing.{width}
use Rattle.script.proofs.rows.add_value.Goals as goal

pub write_digits-start-requires : goal.write_digits-start-requires
write_digits-start-requires c = (omega (arith, width c.args.value c.ranges.value.fits), omega arith)

pub add_text-requires : goal.add_text-requires
add_text-requires c = (omega (arith, width c.args.value c.ranges.value.fits), omega arith)

pub returns-clause-few : goal.returns-clause-few
returns-clause-few c = width c.args.value c.ranges.value.fits
