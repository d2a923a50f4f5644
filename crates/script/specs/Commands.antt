-- The call that a line asks for, or why it asks for none.
use Rattle.std.specs.Prelude.{ℕ, ◌-◌, Bool, cond, List, [], length, Some, None, Ok, Err, Option, Result, ◌==◌, slice_index, slice_index_or}
use Rattle.fault.specs.declared.Fault.{Fault}
use Rattle.fault.specs.declared.Layer.TheVariants.{Text}
use Rattle.fault.specs.declared.Refusal.{Refusal}
use Rattle.fault.specs.declared.Refusal.TheVariants.{UnknownCommand, WrongFieldCount, NotANumber}
use Rattle.store.specs.declared.Call.{Call}
use Rattle.store.specs.declared.Call.TheVariants as call
use Rattle.script.specs.declared.commands.Command.{Command}
use Rattle.script.specs.declared.commands.Command.TheVariants.{Begin, Load, Store, Commit, Abort, Seat, Drop}
use Rattle.script.specs.Numerals.{number_in}
use Rattle.script.specs.Pieces.{fields_of}

abbrev pub refuse : Refusal → Fault
refuse r = record { layer = Text; refusal = r }

-- the letters b, l, s, c, a, m and d
abbrev pub command_of : ℕ → Option Command
command_of c =
    cond (c == 98) (Some Begin)
    (cond (c == 108) (Some Load)
    (cond (c == 115) (Some Store)
    (cond (c == 99) (Some Commit)
    (cond (c == 97) (Some Abort)
    (cond (c == 109) (Some Seat)
    (cond (c == 100) (Some Drop) None))))))

-- the command that a field names by its one byte
abbrev pub command_in : List ℕ → Option Command
command_in field = cond (length field == 1) (command_of (slice_index field 0)) None

-- how many fields a line of the command has, its letter included
abbrev pub fields_fit : Command → ℕ → Bool
fields_fit Begin found = found == 2
fields_fit Load found = found == 3
fields_fit Store found = found == 4
fields_fit Commit found = found == 2
fields_fit Abort found = found == 2
fields_fit Seat found = found == 3
fields_fit Drop found = found == 3

abbrev pub or_refused : ℕ → Option ℕ → Result ℕ Fault
or_refused position (Some n) = Ok n
or_refused position None = Err (refuse (NotANumber position))

-- the number in the field at a position, the letter's being 1
abbrev pub number_at : List (List ℕ) → ℕ → Result ℕ Fault
number_at fields position = or_refused position (number_in (slice_index_or fields (position - 1) []))

abbrev pub and_then : {S T : Type 0} → Result S Fault → (S → Result T Fault) → Result T Fault
and_then (Ok x) next = next x
and_then (Err f) next = Err f

-- the call with its numbers, from left to right
abbrev pub call_of : Command → List (List ℕ) → Result Call Fault
call_of Begin fs = and_then (number_at fs 2) (λ t. Ok (call.Begin t))
call_of Load fs = and_then (number_at fs 2) (λ t. and_then (number_at fs 3) (λ a. Ok (call.Load t a)))
call_of Store fs = and_then (number_at fs 2) (λ t. and_then (number_at fs 3) (λ a. and_then (number_at fs 4) (λ w. Ok (call.Store t a w))))
call_of Commit fs = and_then (number_at fs 2) (λ t. Ok (call.Commit t))
call_of Abort fs = and_then (number_at fs 2) (λ t. Ok (call.Abort t))
call_of Seat fs = and_then (number_at fs 2) (λ t. and_then (number_at fs 3) (λ board. Ok (call.Seat t board)))
call_of Drop fs = and_then (number_at fs 2) (λ board. and_then (number_at fs 3) (λ b. Ok (call.Drop board b)))

-- the call of a command on a line in which so many fields were found
abbrev pub commanded : Option Command → ℕ → List (List ℕ) → Result Call Fault
commanded None found fields = Err (refuse UnknownCommand)
commanded (Some command) found fields = cond (fields_fit command found) (call_of command fields) (Err (refuse (WrongFieldCount found)))

-- a line's call: first its command is judged, then the number of its fields, then each number
unfoldable pub parse_of : List ℕ → Result Call Fault
parse_of line = commanded (command_in (slice_index_or (fields_of line) 0 [])) (length (fields_of line)) (fields_of line)
