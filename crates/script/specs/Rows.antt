-- The row of a line in the report.
use Rattle.std.specs.Prelude.{ℕ, ◌≤◌, List, [], ◌∷◌, ◌++◌, Ok, Err, codes, decimal, Result}
use Rattle.fault.specs.Numbers.{letter_of, number_of, place_of}
use Rattle.fault.specs.declared.Fault.{Fault}
use Rattle.store.specs.States.{values_of}
use Rattle.store.specs.declared.Answer.{Answer}
use Rattle.store.specs.declared.Answer.TheVariants.{Done, Word, Ended}

-- each value behind a space
abbrev pub spaced : List ℕ → List ℕ
spaced [] = []
spaced (v ∷ vs) = (32 ∷ decimal v) ++ spaced vs

abbrev pub answer_text : Answer → List ℕ
answer_text answer = codes " ok" ++ spaced (values_of answer)

abbrev pub fault_text : Fault → List ℕ
fault_text fault = codes " no " ++ (letter_of fault.layer ∷ spaced (number_of fault.refusal ∷ place_of fault.refusal ∷ []))

abbrev pub outcome_text : Result Answer Fault → List ℕ
outcome_text (Ok answer) = answer_text answer
outcome_text (Err fault) = fault_text fault

-- the line's number, its outcome, and byte 10
abbrev pub row_of : ℕ → Result Answer Fault → List ℕ
row_of line outcome = decimal line ++ (outcome_text outcome ++ (10 ∷ []))

-- a job's end counts no more records than its two logs can hold
abbrev pub Within : Result Answer Fault → Type 0
Within (Ok Done) = Unit {0}
Within (Ok (Word w)) = Unit {0}
Within (Ok (Ended records figure)) = (records ≤ 64) × (figure ≤ 128)
Within (Err fault) = Unit {0}
