-- A field of a line, with its position.
use Rattle.std.specs.Prelude.{◌≡◌, ℕ, ◌-◌, ◌<◌, ◌≤◌, Bool, true, false, List, [], length, Some, None, Option, ◌==◌, slice_index_or}
use Rattle.script.specs.declared.words.Word.{Word}
use Rattle.script.specs.declared.words.Word.TheVariants.{Letter, Number}
use Rattle.script.specs.Pieces.{fields_of}

abbrev pub bytes_of : Word → List ℕ
bytes_of (Letter bytes position) = bytes.now
bytes_of (Number bytes position) = bytes.now

abbrev pub position_of : Word → ℕ
position_of (Letter bytes position) = position
position_of (Number bytes position) = position

-- the first field is the command's letter
abbrev pub leads : Word → Bool
leads (Letter bytes position) = true
leads (Number bytes position) = false

-- the word is the line's field at that position
pub record IsField (line : List ℕ) (position : ℕ) (word : Word) : Type 0 where
  pub bytes : bytes_of word ≡ slice_index_or (fields_of line) (position - 1) []
  pub place : position_of word ≡ position
  pub kind : leads word ≡ (position == 1)
  pub there : (0 < position) × (position ≤ length (fields_of line))

-- what a line has at a position: that field, or none
abbrev pub FieldAt : List ℕ → ℕ → Option Word → Type 0
FieldAt line position (Some word) = IsField line position word
FieldAt line position None = 0 < position → length (fields_of line) < position
