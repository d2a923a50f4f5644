-- What a store that went through a history has: the facts that every call carries forward.
use Rattle.std.specs.Prelude.{◌≡◌, ℕ, ◌<◌, ◌≤◌, cond, List, ◌∷◌, map, length, is_some, Some, None, Result, slice_index}
use Rattle.threads.specs.Tables.{entry_at}
use Rattle.threads.specs.declared.record.Undo.{Undo}
use Rattle.book.specs.Holdings.{Holdings}
use Rattle.store.specs.States.{State}
use Rattle.store.specs.Histories.{History, Job, events, sightings, open_job, job_of, serial_words, latest_store, stored_in, touched, stored_addresses, Agrees, EndedLoads}
use Rattle.fault.specs.declared.Fault.{Fault}
use Rattle.store.specs.Rules.{Answers}
use Rattle.store.specs.declared.Answer.{Answer}
use Rattle.store.specs.declared.Call.{Call}

-- a job's holding of a block: all tokens where it stored, one where it only loaded
abbrev pub holding_of : Job → ℕ → ℕ
holding_of j b = cond (stored_in j b) 64 (cond (touched j b) 1 0)

-- the undo record of an address over the serial words
abbrev pub record_of : List ℕ → ℕ → Undo
record_of ws a = record { address = a; old = slice_index ws a }

-- no thread below n holds a token
abbrev pub NoneHeld : ℕ → Holdings → Type 0
NoneHeld n H = (t b : ℕ) → t < n → H t b ≡ 0

-- m: the starting words, h: the history, s: the state that it led to
pub record Reached (m : List ℕ) (h : History) (s : State) : Type 0 where
  pub size : length s.words ≡ length m
  pub threads : length s.table ≡ 16
  pub open? : (t : ℕ) → t < 16 → (entry_at s.table t).is_open ≡ is_some (open_job (events h) t)
  pub above : (t : ℕ) → 16 ≤ t → open_job (events h) t ≡ None
  pub logged : (t : ℕ) → t < 16 → (entry_at s.table t).undo ≡ map (record_of (serial_words m (events h))) (stored_addresses (job_of (events h) t))
  pub held : (t b : ℕ) → t < 16 → s.holds t b ≡ holding_of (job_of (events h) t) b
  pub stored : (t a w : ℕ) → t < 16 → a < length m → latest_store (job_of (events h) t) a ≡ Some w → slice_index s.words a ≡ w
  pub serial : (a : ℕ) → a < length m → ((t : ℕ) → t < 16 → latest_store (job_of (events h) t) a ≡ None) → slice_index s.words a ≡ slice_index (serial_words m (events h)) a
  pub open_loads : (t : ℕ) → t < 16 → Agrees (serial_words m (events h)) (job_of (sightings h) t)
  pub ended_loads : EndedLoads m h
  pub answers : Answers m h

-- a call with its answer carries every history forward: whatever led to the state before it, with this turn leads to the state after
abbrev pub Carries : State → Call → Result Answer Fault → State → Type 0
Carries s c r s' = (m : List ℕ) (h : History) → Reached m h s → Reached m (record { call = c; answer = r } ∷ h) s'
