-- The codes of marks.
use Rattle.std.specs.Prelude.{ℕ, ◌+◌, Some, None, Option}
use Rattle.marks.specs.declared.states.Metastate.{Metastate}
use Rattle.marks.specs.declared.states.Metastate.TheVariants.{Anonymous, Reader, Writer}

abbrev pub code_of : Metastate → ℕ
code_of (Anonymous u) = u
code_of (Reader x) = 16384 + x
code_of (Writer x) = 32768 + x

-- of the copy on a board, or of none
abbrev pub copy_code_of : Option Metastate → ℕ
copy_code_of None = 65535
copy_code_of (Some m) = code_of m
