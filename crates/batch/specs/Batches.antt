-- What a batch makes of an input: the station's whole work.
use Rattle.std.specs.Prelude.{◌≡◌, ℕ, List, take, replicate, Some, None, Option}
use Rattle.fault.specs.Numbers.{place_of}
use Rattle.fault.specs.declared.Fault.{Fault}
use Rattle.console.specs.declared.Ran.{Ran}

-- the number of the line that was not run, where a run stopped early
abbrev pub line_in : Option Fault → Option ℕ
line_in None = None
line_in (Some f) = Some (place_of f.refusal)

-- the first 32768 bytes of the input are run with a report of 65536 bytes, and the rows are its
-- bytes up to the fill mark; `Kept` says what a run promises of its script, the report before and
-- after, and how far it came
pub record Batched (Kept : List ℕ → List ℕ → List ℕ → Ran → Type 0) (input rows : List ℕ) (not_run : Option ℕ) : Type 0 where
  pub after : List ℕ
  pub ran : Ran
  pub kept : Kept (take 32768 input) (replicate 65536 0) after ran
  pub rows_are : rows ≡ take ran.fill after
  pub stopped : not_run ≡ line_in ran.stopped
