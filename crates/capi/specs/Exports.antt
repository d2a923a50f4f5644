-- How the exports say what the calls of `lent` promise: over a fresh book, and by figures that C can take.
use Rattle.std.specs.Prelude.{◌≡◌, ℕ, Option, Some, None}
use Rattle.fault.specs.Numbers.{place_of}
use Rattle.fault.specs.declared.Fault.{Fault}
use Rattle.full.specs.Held.{held_in}
use Rattle.full.specs.declared.table.FullBook.{FullBook}
use Rattle.console.specs.declared.Ran.{Ran}

-- P of a full book in which nothing is held
pub record OnFreshFull (P : FullBook → Type 0) : Type 0 where
  pub book : FullBook
  pub fresh : held_in book.rows ≡ (λ t b. 0)
  pub promised : P book

-- the number of the line at which a run stopped early, or 0
abbrev pub line_of : Option Fault → ℕ
line_of None = 0
line_of (Some f) = place_of f.refusal

-- P of a run of which these are the figures
pub record WithFigures (fill stopped : ℕ) (P : Ran → Type 0) : Type 0 where
  pub ran : Ran
  pub fill_is : fill ≡ ran.fill
  pub stopped_is : stopped ≡ line_of ran.stopped
  pub promised : P ran
