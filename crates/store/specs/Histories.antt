-- Histories of one store, and what is read off them: jobs, serial words, loads.
--
-- A turn is a call with its answer. A history has the turns of one fresh store, the newest first.
use Rattle.std.specs.Prelude.{◌≡◌, ℕ, Bool, true, false, cond, ◌||◌, List, [], ◌∷◌, ◌++◌, map, is_some, is_ok, Some, None, Ok, Err, Option, Result, ◌==◌, slice_index, slice_set}
use Rattle.std.specs.Option.{option_map, unwrap_or}
use Rattle.fault.specs.declared.Fault.{Fault}
use Rattle.store.specs.States.{block_of}
use Rattle.store.specs.declared.Answer.{Answer}
use Rattle.store.specs.declared.Answer.TheVariants.{Done, Word, Ended}
use Rattle.store.specs.declared.Call.{Call}
use Rattle.store.specs.declared.Call.TheVariants.{Begin, Load, Store, Commit, Abort, Seat, Drop}

pub record Told : Type 0 where
  pub call : Call
  pub answer : Result Answer Fault

abbrev pub History : Type 0
History = List Told

-- what a granted call does to jobs; X is what is known of an access
pub data Event (X : Type 0) : Type 0 where
  opens : ℕ → Event X
  accesses : ℕ → X → Event X
  ends : ℕ → Bool → Event X
  nothing : Event X

-- a load or a store as it was asked
pub data Access : Type 0 where
  loads : ℕ → Access
  stores : ℕ → ℕ → Access

-- a call, once it is known whether it was granted: a commit ends a job for good, an abort does not; seat and drop
-- belong to no job
abbrev pub event_of : Call → Bool → Event Access
event_of c false = nothing
event_of (Begin t) true = opens t
event_of (Load t a) true = accesses t (loads a)
event_of (Store t a w) true = accesses t (stores a w)
event_of (Commit t) true = ends t true
event_of (Abort t) true = ends t false
event_of (Seat t board) true = nothing
event_of (Drop board b) true = nothing

-- the calls of a history and which were granted, and nothing else of the answers
abbrev pub events : History → List (Event Access)
events [] = []
events (turn ∷ h) = event_of turn.call (is_ok turn.answer) ∷ events h

-- a job: its accesses, the newest first
abbrev pub JobOf : Type 0 → Type 0
JobOf X = List X

abbrev pub Job : Type 0
Job = JobOf Access

-- the open job of a thread, if it has one
abbrev pub stepped : {X : Type 0} → Event X → ℕ → Option (List X) → Option (List X)
stepped (opens u) t j = cond (u == t) (Some []) j
stepped (accesses u x) t j = cond (u == t) (option_map (λ xs. x ∷ xs) j) j
stepped (ends u c) t j = cond (u == t) None j
stepped nothing t j = j

unfoldable pub open_job : {X : Type 0} → List (Event X) → ℕ → Option (List X)
open_job [] t = None
open_job (e ∷ es) t = stepped e t (open_job es t)

-- its accesses; none where no job is open
abbrev pub job_of : {X : Type 0} → List (Event X) → ℕ → List X
job_of es t = unwrap_or (open_job es t) []

-- a job run alone on given words: the words afterwards
unfoldable pub alone : List ℕ → Job → List ℕ
alone ws [] = ws
alone ws (loads a ∷ j) = alone ws j
alone ws (stores a w ∷ j) = slice_set (alone ws j) a w

-- the starting words, changed by each committed job run alone, in the order of the commits
unfoldable pub serial_words : List ℕ → List (Event Access) → List ℕ
serial_words m [] = m
serial_words m (opens t ∷ es) = serial_words m es
serial_words m (accesses t x ∷ es) = serial_words m es
serial_words m (ends t true ∷ es) = alone (serial_words m es) (job_of es t)
serial_words m (ends t false ∷ es) = serial_words m es
serial_words m (nothing ∷ es) = serial_words m es

-- the word of the job's latest store at an address
unfoldable pub latest_store : Job → ℕ → Option ℕ
latest_store [] a = None
latest_store (loads b ∷ j) a = latest_store j a
latest_store (stores b w ∷ j) a = cond (b == a) (Some w) (latest_store j a)

-- the job was granted a store in the block
unfoldable pub stored_in : Job → ℕ → Bool
stored_in [] b = false
stored_in (loads a ∷ j) b = stored_in j b
stored_in (stores a w ∷ j) b = block_of a == b || stored_in j b

-- the job was granted a load or a store in the block
unfoldable pub touched : Job → ℕ → Bool
touched [] b = false
touched (loads a ∷ j) b = block_of a == b || touched j b
touched (stores a w ∷ j) b = block_of a == b || touched j b

-- the addresses that the job stored to, each once, in the order of the first store
unfoldable pub stored_addresses : Job → List ℕ
stored_addresses [] = []
stored_addresses (loads a ∷ j) = stored_addresses j
stored_addresses (stores a w ∷ j) = cond (is_some (latest_store j a)) (stored_addresses j) (stored_addresses j ++ a ∷ [])

-- an access with the word that it answered; a store answers none, which is kept as 0
pub record Seen : Type 0 where
  pub access : Access
  pub word : ℕ

abbrev pub word_in : Result Answer Fault → ℕ
word_in (Ok (Word w)) = w
word_in (Ok Done) = 0
word_in (Ok (Ended n f)) = 0
word_in (Err e) = 0

-- an event with the word that its access answered
abbrev pub seen_with : ℕ → Event Access → Event Seen
seen_with w (opens t) = opens t
seen_with w (accesses t x) = accesses t record { access = x; word = w }
seen_with w (ends t c) = ends t c
seen_with w nothing = nothing

abbrev pub sightings : History → List (Event Seen)
sightings [] = []
sightings (turn ∷ h) = seen_with (word_in turn.answer) (event_of turn.call (is_ok turn.answer)) ∷ sightings h

-- a load answered what it gets after the earlier accesses of its job, run alone on ws
abbrev pub AgreesAt : List ℕ → Access → ℕ → Job → Type 0
AgreesAt ws (loads a) w earlier = w ≡ slice_index (alone ws earlier) a
AgreesAt ws (stores a v) w earlier = Unit {0}

-- each load answered what the job gets at that load when it is run alone on ws
unfoldable pub Agrees : List ℕ → List Seen → Type 0
Agrees ws [] = Unit {0}
Agrees ws (x ∷ xs) = AgreesAt ws x.access x.word (map (λ y. y.access) xs) × Agrees ws xs

-- the jobs that ended, each run on the serial words as they were just before its end
abbrev pub EndedWell : List ℕ → History → Event Access → Type 0
EndedWell m h (opens t) = Unit {0}
EndedWell m h (accesses t x) = Unit {0}
EndedWell m h (ends t c) = Agrees (serial_words m (events h)) (job_of (sightings h) t)
EndedWell m h nothing = Unit {0}

unfoldable pub EndedLoads : List ℕ → History → Type 0
EndedLoads m [] = Unit {0}
EndedLoads m (turn ∷ h) = EndedWell m h (event_of turn.call (is_ok turn.answer)) × EndedLoads m h
