-- A call that does nothing to any job: one that is refused, a seat, a drop. The state stays, and so does what it has.
use Rattle.std.proofs.Common.{◌≡◌, ℕ, ◌<◌, ◌≤◌, List, ◌∷◌, map, length, is_some, is_ok, Some, None, Ok, Err, Result, slice_index, sym, refl, subst}
use Rattle.fault.specs.declared.Fault.{Fault}
use Rattle.threads.specs.Tables.{entry_at}
use Rattle.store.specs.States.{State}
use Rattle.store.specs.Histories.{History, Event, Access, nothing, event_of, events, word_in, seen_with, sightings, open_job, job_of, serial_words, latest_store, stored_addresses, Agrees, EndedWell, EndedLoads}
use Rattle.store.specs.Rules.{Rightly, Answers}
use Rattle.store.specs.Reached.{Reached, record_of, holding_of}
use Rattle.store.specs.declared.Answer.{Answer}
use Rattle.store.specs.declared.Call.{Call}
use Rattle.store.specs.declared.Call.TheVariants.{Seat, Drop}

module _ (m : List ℕ) (h : History) (s : State) where
  -- what the state has of the jobs, where e is the newest event, with the word w
  record Kept (w : ℕ) (e : Event Access) : Type 0 where
    open? : (t : ℕ) → t < 16 → (entry_at s.table t).is_open ≡ is_some (open_job (e ∷ events h) t)
    above : (t : ℕ) → 16 ≤ t → open_job (e ∷ events h) t ≡ None
    logged : (t : ℕ) → t < 16 → (entry_at s.table t).undo ≡ map (record_of (serial_words m (e ∷ events h))) (stored_addresses (job_of (e ∷ events h) t))
    held : (t b : ℕ) → t < 16 → s.holds t b ≡ holding_of (job_of (e ∷ events h) t) b
    stored : (t a v : ℕ) → t < 16 → a < length m → latest_store (job_of (e ∷ events h) t) a ≡ Some v → slice_index s.words a ≡ v
    serial : (a : ℕ) → a < length m → ((t : ℕ) → t < 16 → latest_store (job_of (e ∷ events h) t) a ≡ None) → slice_index s.words a ≡ slice_index (serial_words m (e ∷ events h)) a
    open_loads : (t : ℕ) → t < 16 → Agrees (serial_words m (e ∷ events h)) (job_of (seen_with w e ∷ sightings h) t)
    ended_well : EndedWell m h e

  kept_by_nothing : (w : ℕ) → Reached m h s → Kept w nothing
  unfolding open_job serial_words
  kept_by_nothing w reached =
      record {
        open? = reached.open?;
        above = reached.above;
        logged = reached.logged;
        held = reached.held;
        stored = reached.stored;
        serial = reached.serial;
        open_loads = reached.open_loads;
        ended_well = tt;
      }

  pub step_by_nothing : (c : Call) (r : Result Answer Fault) → event_of c (is_ok r) ≡ nothing → Rightly m (events h) c r → Reached m h s → Reached m (record { call = c; answer = r } ∷ h) s
  unfolding EndedLoads Answers
  step_by_nothing c r none rightly reached =
      let kept = subst (Kept (word_in r)) (sym none) (kept_by_nothing (word_in r) reached) in
      record {
        size = reached.size;
        threads = reached.threads;
        open? = kept.open?;
        above = kept.above;
        logged = kept.logged;
        held = kept.held;
        stored = kept.stored;
        serial = kept.serial;
        open_loads = kept.open_loads;
        ended_loads = (kept.ended_well, reached.ended_loads);
        answers = (rightly, reached.answers);
      }

  pub step_refused : (c : Call) (f : Fault) → Rightly m (events h) c (Err f) → Reached m h s → Reached m (record { call = c; answer = Err f } ∷ h) s
  step_refused c f = step_by_nothing c (Err f) refl

-- seat and drop belong to no job, granted or refused
pub seat_does_nothing : (t board : ℕ) (r : Result Answer Fault) → event_of (Seat t board) (is_ok r) ≡ nothing
seat_does_nothing t board (Ok x) = refl
seat_does_nothing t board (Err f) = refl

pub drop_does_nothing : (board b : ℕ) (r : Result Answer Fault) → event_of (Drop board b) (is_ok r) ≡ nothing
drop_does_nothing board b (Ok x) = refl
drop_does_nothing board b (Err f) = refl
