use Rattle.std.proofs.Common.{arith}
use Rattle.std.proofs.lemmas.Grind.{common_steps}
use Rattle.script.proofs.Fronting.{take_front}
use Rattle.script.proofs.Reading.{number-decimal}
use Rattle.script.proofs.decimal.put_number.Goals as goal

pub returns-clause-readback : goal.returns-clause-readback
returns-clause-readback c = let front = take_front _ _ _ _ c.put_text.ensures.answer c.put_text.ensures.written in let read = number-decimal c.args.n c.ranges.n.fits in grind (arith, common_steps)
