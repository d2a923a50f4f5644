-- Calls and answers as numbers, four for each.
use Rattle.std.specs.Prelude.{ℕ, ◌/◌, min, cond, List, [], ◌∷◌, length, take, Some, None, Ok, Err, Option, Result, ◌==◌, slice_index}
use Rattle.std.specs.List.{flat_map}
use Rattle.std.specs.Simd.{first_chunks}
use Rattle.fault.specs.Numbers.{letter_of, number_of, place_of}
use Rattle.fault.specs.declared.Fault.{Fault}
use Rattle.store.specs.declared.Answer.{Answer}
use Rattle.store.specs.declared.Answer.TheVariants.{Done, Word, Ended}
use Rattle.store.specs.declared.Call.{Call}
use Rattle.store.specs.declared.Call.TheVariants.{Begin, Load, Store, Commit, Abort, Seat, Drop}
use Rattle.store.specs.declared.Turn.{Turn}

-- by the letters b, l, s, c, a, m and d; unused numbers do not matter
abbrev pub lettered : ℕ → ℕ → ℕ → ℕ → Option Call
lettered letter x y z =
    cond (letter == 98) (Some (Begin x))
    (cond (letter == 108) (Some (Load x y))
    (cond (letter == 115) (Some (Store x y z))
    (cond (letter == 99) (Some (Commit x))
    (cond (letter == 97) (Some (Abort x))
    (cond (letter == 109) (Some (Seat x y))
    (cond (letter == 100) (Some (Drop x y)) None))))))

-- the call that four numbers stand for: the script's letter, then the fields in the script's order
abbrev pub call_of : List ℕ → Option Call
call_of ns = lettered (slice_index ns 0) (slice_index ns 1) (slice_index ns 2) (slice_index ns 3)

-- granted: 0, how many values, the values; refused: the layer's letter, the refusal's number, what it carries
abbrev pub numbers_of : Result Answer Fault → List ℕ
numbers_of (Ok Done) = 0 ∷ 0 ∷ 0 ∷ 0 ∷ []
numbers_of (Ok (Word w)) = 0 ∷ 1 ∷ w ∷ 0 ∷ []
numbers_of (Ok (Ended n f)) = 0 ∷ 2 ∷ n ∷ f ∷ []
numbers_of (Err f) = letter_of f.layer ∷ number_of f.refusal ∷ place_of f.refusal ∷ 0 ∷ []

-- an answer that is not set has none
abbrev pub numbers_in : Option (Result Answer Fault) → List ℕ
numbers_in None = []
numbers_in (Some r) = numbers_of r

-- the numbers of the answers of turns, one after the other
abbrev pub answers_of : List Turn → List ℕ
answers_of turns = flat_map (λ (turn : Turn). numbers_in turn.answer) turns

-- the whole groups of four numbers for which both slices have room
abbrev pub groups : List ℕ → List ℕ → List (List ℕ)
groups calls answers = take (min (length calls / 4) (length answers / 4)) (first_chunks 4 (length calls / 4) calls)

abbrev pub before_none : Option Call → List Call → List Call
before_none None cs = []
before_none (Some c) cs = c ∷ cs

-- the calls of groups, up to the first that stands for none
unfoldable pub calls_of : List (List ℕ) → List Call
calls_of [] = []
calls_of (g ∷ gs) = before_none (call_of g) (calls_of gs)
