-- What a script's run leaves: rows, turns, and where it stopped.
use Rattle.std.specs.Prelude.{◌≡◌, ℕ, ◌+◌, ◌-◌, ◌<◌, ◌≤◌, List, [], ◌∷◌, ◌++◌, length, drop, Some, None, Ok, Err, Option, Result}
use Rattle.std.specs.List.{AllByRecursion}
use Rattle.fault.specs.declared.Fault.{Fault}
use Rattle.fault.specs.declared.Layer.TheVariants.{Text}
use Rattle.fault.specs.declared.Refusal.TheVariants.{ReportFull}
use Rattle.book.specs.Holdings.{Holdings}
use Rattle.book.specs.Moves.{Move}
use Rattle.book.specs.Picture.{Picture}
use Rattle.script.specs.Commands.{parse_of}
use Rattle.script.specs.Rows.{row_of}
use Rattle.store.specs.States.{State, state_of}
use Rattle.store.specs.Histories.{History}
use Rattle.store.specs.Reached.{Reached}
use Rattle.store.specs.Moved.{Releases}
use Rattle.store.specs.Promises.{Promised, Travelled, TokensShown}
use Rattle.store.specs.declared.Answer.{Answer}
use Rattle.store.specs.declared.Call.{Call}
use Rattle.store.specs.declared.Store.{Store}
use Rattle.script.specs.Pieces.{lines_of}
use Rattle.console.specs.declared.Ran.{Ran}

-- a line that was run: its number, its bytes, and what came of it
pub record Entry : Type 0 where
  pub number : ℕ
  pub line : List ℕ
  pub outcome : Result Answer Fault

-- the lines from number n on, with so many bytes free, are run as the entries tell, up to the first line that is not empty
-- and finds fewer than 64 bytes free
pub data Runs : ℕ → List (List ℕ) → ℕ → List Entry → Option ℕ → Type 0 where
  finished : (n free : ℕ) → Runs n [] free [] None
  skipped : (n free : ℕ) (ls : List (List ℕ)) (es : List Entry) (stop : Option ℕ) → Runs (n + 1) ls free es stop → Runs n ([] ∷ ls) free es stop
  stopped : (n free : ℕ) (l : List ℕ) (ls : List (List ℕ)) → 0 < length l → free < 64 → Runs n (l ∷ ls) free [] (Some n)
  ran : (n free : ℕ) (l : List ℕ) (ls : List (List ℕ)) (outcome : Result Answer Fault) (es : List Entry) (stop : Option ℕ) → 0 < length l → 64 ≤ free → Runs (n + 1) ls (free - length (row_of n outcome)) es stop → Runs n (l ∷ ls) free (record { number = n; line = l; outcome = outcome } ∷ es) stop

-- one row for each line that was run, in order
unfoldable pub rows_of : List Entry → List ℕ
rows_of [] = []
rows_of (e ∷ es) = row_of e.number e.outcome ++ rows_of es

-- a line that is no call has its text refusal for an outcome
abbrev pub RefusedBy : Result Call Fault → Result Answer Fault → Type 0
RefusedBy (Ok c) r = Unit {0}
RefusedBy (Err f) r = r ≡ Err f

abbrev pub TextRight : Entry → Type 0
TextRight e = RefusedBy (parse_of e.line) e.outcome

-- a line that is a call is a turn of the store
abbrev pub turn_of : Result Call Fault → Result Answer Fault → History → History
turn_of (Ok c) r h = record { call = c; answer = r } ∷ h
turn_of (Err f) r h = h

unfoldable pub turns_from : History → List Entry → History
turns_from h [] = h
turns_from h (e ∷ es) = turns_from (turn_of (parse_of e.line) e.outcome h) es

-- the turns of the lines carry every history forward
abbrev pub CarriesAll : State → List Entry → State → Type 0
CarriesAll s es s' = (m : List ℕ) (h : History) → Reached m h s → Reached m (turns_from h es) s'

-- and so does the book, by its own moves
abbrev pub TravelsAll : {B : Type 0} → (B → Holdings) → (B → Move → B → Type 0) → State → List Entry → B → B → Type 0
TravelsAll {B} holding R s es k l = (m : List ℕ) (h : History) (first : B) → Reached m h s → Travelled holding R first h k → Travelled holding R first (turns_from h es) l

abbrev pub full_fault : ℕ → Fault
full_fault n = record { layer = Text; refusal = ReportFull n }

abbrev pub full_at : Option ℕ → Option Fault
full_at None = None
full_at (Some n) = Some (full_fault n)

-- what a run promises of the store, the script and the report before, what it answers, and report and store after
pub record Reported {M B : Type 0} (beyond : M → List (List ℕ)) (holding : B → Holdings) (R : B → Move → B → Type 0) (s : State) (store : Store M B) (script report : List ℕ) (r : Ran) (report' : List ℕ) (s' : State) (store' : Store M B) : Type 0 where
  -- the lines that were run, and the line at which the run stopped early
  pub entries : List Entry
  pub stop : Option ℕ
  pub lines : Runs 1 (lines_of script) (length report) entries stop
  pub stopped : r.stopped ≡ full_at stop
  -- their rows, and nothing else in the report
  pub fill : r.fill ≡ length (rows_of entries)
  pub rows : report' ≡ rows_of entries ++ drop r.fill report
  -- each outcome is the line's text refusal, or the store's answer to the line's call, made in order
  pub text : AllByRecursion TextRight entries
  pub carried : CarriesAll s entries s'
  pub travelled : TravelsAll holding R s entries store.book store'.book
  pub untouched : beyond store'.memory ≡ beyond store.memory

-- a run on a fresh store, with everything that is promised of the turns of its lines
pub record RanFresh {M B : Type 0} (words : M → List ℕ) (beyond : M → List (List ℕ)) (holding : B → Holdings) (R : B → Move → B → Type 0) (picture : B → Picture) (memory : M) (book : B) (script report report' : List ℕ) (store : Store M B) (r : Ran) : Type 0 where
  -- the fresh store
  pub start : Store M B
  pub memory_is : start.memory ≡ memory
  pub released : Releases R book 16 start.book
  -- rows and outcomes of the lines
  pub reported : Reported beyond holding R (state_of words holding start) start script report r report' (state_of words holding store) store
  -- answers, conflicts, serial words, loads and figures of the turns that the lines made
  pub promised : Promised (words memory) (turns_from [] reported.entries) (state_of words holding store)
  pub travelled : Travelled holding R start.book (turns_from [] reported.entries) store.book
  pub tokens : TokensShown (picture store.book) (turns_from [] reported.entries)
  pub untouched : beyond store.memory ≡ beyond memory
