-- What was asked of a book, with its answer.
use Rattle.std.specs.Prelude.{ℕ, Result}
use Rattle.fault.specs.declared.Fault.{Fault}

-- thread, board and block in the order of the call
pub data Move : Type 0 where
  loaded : ℕ → ℕ → Result (Unit {0}) Fault → Move
  stored : ℕ → ℕ → Result (Unit {0}) Fault → Move
  released : ℕ → Result ℕ Fault → Move
  seated : ℕ → ℕ → Result (Unit {0}) Fault → Move
  dropped : ℕ → ℕ → Result (Unit {0}) Fault → Move
