-- What the full book's table means.
use Rattle.std.specs.Prelude.{ℕ, List, [], slice_index_or}
use Rattle.book.specs.Holdings.{Holdings}
use Rattle.full.specs.declared.holding.Holding.{Holding}
use Rattle.full.specs.declared.holding.Holding.TheVariants.{Nothing, One, All}

abbrev pub tokens_of : Holding → ℕ
tokens_of Nothing = 0
tokens_of One = 1
tokens_of All = 64

-- a row for each thread, a cell for each block; outside the table nothing is held
abbrev pub held_in : List (List Holding) → Holdings
held_in rows = λ t b. tokens_of (slice_index_or (slice_index_or rows t []) b Nothing)
