-- A text at the front of a buffer is read back.
use Rattle.std.proofs.Common.{◌≡◌, ℕ, List, length, take, drop, Option, Some, None, IfSome, arith}
use Rattle.std.proofs.lemmas.List.{take_at}
use Rattle.std.proofs.lemmas.Bool.Decides.{nat_tests}
use Rattle.std.proofs.lemmas.Grind.{common_steps}
use Rattle.script.specs.Writing.{fronted, fronts}

pub take_front : (buffer bytes after : List ℕ) (r : Option ℕ) → r ≡ fronts buffer bytes → after ≡ fronted buffer bytes → IfSome r (λ k. take k after ≡ bytes)
take_front buffer bytes after None is a = tt
take_front buffer bytes after (Some k) is a = grind (arith, nat_tests, common_steps, take_at bytes (drop (length bytes) buffer) k)
