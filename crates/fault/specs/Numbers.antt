-- The letter of each layer, and the number and the carried value of each refusal.
use Rattle.std.specs.Prelude.{ℕ, List, ◌∷◌, ◌++◌, decimal}
use Rattle.fault.specs.declared.Fault.{Fault}
use Rattle.fault.specs.declared.Layer.{Layer}
use Rattle.fault.specs.declared.Layer.TheVariants.{Text, Store, Memory, Book, Marks}
use Rattle.fault.specs.declared.Refusal.{Refusal}
use Rattle.fault.specs.declared.Refusal.TheVariants.{ThreadOutOfRange, JobOpen, NoJobOpen, AddressOutOfRange, UndoLogFull, LoadConflict, StoreConflict, BoardOutOfRange, BlockOutOfRange, MarksApart, UnknownCommand, WrongFieldCount, NotANumber, ReportFull}

-- as the code of an ASCII letter: T, S, M, B, K
abbrev pub letter_of : Layer → ℕ
letter_of Text = 84
letter_of Store = 83
letter_of Memory = 77
letter_of Book = 66
letter_of Marks = 75

abbrev pub number_of : Refusal → ℕ
number_of (ThreadOutOfRange t) = 1
number_of (JobOpen t) = 2
number_of (NoJobOpen t) = 3
number_of (AddressOutOfRange a) = 4
number_of (UndoLogFull a) = 5
number_of (LoadConflict t) = 6
number_of (StoreConflict t) = 7
number_of (BoardOutOfRange n) = 8
number_of (BlockOutOfRange b) = 9
number_of (MarksApart s) = 10
number_of UnknownCommand = 11
number_of (WrongFieldCount n) = 12
number_of (NotANumber f) = 13
number_of (ReportFull l) = 14

abbrev pub place_of : Refusal → ℕ
place_of (ThreadOutOfRange t) = t
place_of (JobOpen t) = t
place_of (NoJobOpen t) = t
place_of (AddressOutOfRange a) = a
place_of (UndoLogFull a) = a
place_of (LoadConflict t) = t
place_of (StoreConflict t) = t
place_of (BoardOutOfRange n) = n
place_of (BlockOutOfRange b) = b
place_of (MarksApart s) = s
place_of UnknownCommand = 1
place_of (WrongFieldCount n) = n
place_of (NotANumber f) = f
place_of (ReportFull l) = l

-- as it is printed: letter, number and place, with single spaces
abbrev pub text_of : Fault → List ℕ
text_of f = letter_of f.layer ∷ 32 ∷ (decimal (number_of f.refusal) ++ (32 ∷ decimal (place_of f.refusal)))
