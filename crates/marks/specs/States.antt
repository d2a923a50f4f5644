-- Metastates: which of them a mark may have, and what each shows.
use Rattle.std.specs.Prelude.{ℕ, ◌+◌, Bool, true, false, cond, ◌||◌, nat_lt}
use Rattle.marks.specs.declared.states.Metastate.{Metastate}
use Rattle.marks.specs.declared.states.Metastate.TheVariants.{Anonymous, Reader, Writer}

-- (u, –) has u from 0 to 63; threads are 0 to 15
abbrev pub in_range : Metastate → Bool
in_range (Anonymous u) = nat_lt u 64
in_range (Reader x) = nat_lt x 16
in_range (Writer x) = nat_lt x 16

-- the tokens that a mark shows as taken
abbrev pub debit_of : Metastate → ℕ
debit_of (Anonymous u) = u
debit_of (Reader x) = 1
debit_of (Writer x) = 64

abbrev pub is_writer : Metastate → Bool
is_writer (Anonymous u) = false
is_writer (Reader x) = false
is_writer (Writer x) = true

-- the tokens that two marks of one block show together: a writer's 64 are shown by every copy,
-- a reader's token by one
abbrev pub shown_by : Metastate → Metastate → ℕ
shown_by a b = cond (is_writer a || is_writer b) 64 (debit_of a + debit_of b)
