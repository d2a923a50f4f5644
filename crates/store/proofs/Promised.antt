-- What a store that went through a history has is what is promised of it.
use Rattle.std.proofs.Common.{◌≡◌, ℕ, ◌<◌, ◌≤◌, false, List, length, get_or, is_some, Some, None, Option, sym, refl, ap, ◌∙◌, subst, ⊎_elim}
use Rattle.std.proofs.lemmas.Bool.{cases_lt}
use Rattle.book.specs.Holdings.{first_below}
use Rattle.book.proofs.Below.{lowest-at}
use Rattle.store.specs.States.{State}
use Rattle.store.specs.Histories.{History, events, sightings, open_job, job_of, serial_words, latest_store, Agrees}
use Rattle.store.specs.Reached.{Reached}
use Rattle.store.specs.Promises.{NoOtherWord, Promised}
use Rattle.store.proofs.Conflicts.{all_conflicts}
use Rattle.store.proofs.Alone.{latest_none, some_is, none_is}
use Rattle.store.proofs.Jobs.{job_none, forget_some}
use Rattle.store.proofs.Loads.{agrees_none}

module _ (m : List ℕ) (h : History) (s : State) (reached : Reached m h s) where
  -- no thread has a number above 15
  idle_above : (t : ℕ) → 16 ≤ t → is_some (open_job (events h) t) ≡ false
  idle_above t l = ap is_some (reached.above t l)

  in_place : (a t w : ℕ) → a < length m → latest_store (job_of (events h) t) a ≡ Some w → get_or s.words a 0 ≡ w
  in_place a t w i e =
      ⊎_elim
      (λ (l : t < 16). reached.stored t a w l i e)
      (λ (l : 16 ≤ t). let f = job_none (events h) t (idle_above t l) in let g = latest_none a in cc)
      (cases_lt t 16)

  serial_then : (a : ℕ) → a < length m → NoOtherWord m h a → get_or s.words a 0 ≡ get_or (serial_words m (events h)) a 0
  serial_then a i same = go (first_below (λ t. is_some (latest_store (job_of (events h) t) a)) 16) refl
    where
      go : (o : Option ℕ) → first_below (λ t. is_some (latest_store (job_of (events h) t) a)) 16 ≡ o → get_or s.words a 0 ≡ get_or (serial_words m (events h)) a 0
      go (Some t) e =
          let found = lowest-at (λ t. is_some (latest_store (job_of (events h) t) a)) 16 e in
          let stored = some_is (latest_store (job_of (events h) t) a) found.1 in
          reached.stored t a stored.0 found.0 i stored.1 ∙ same t stored.0 stored.1
      go None e = reached.serial a i (λ t l. none_is (latest_store (job_of (events h) t) a) (lowest-at (λ t. is_some (latest_store (job_of (events h) t) a)) 16 e t l))

  open_loads : (t : ℕ) → Agrees (serial_words m (events h)) (job_of (sightings h) t)
  open_loads t =
      ⊎_elim
      (λ (l : t < 16). reached.open_loads t l)
      (λ (l : 16 ≤ t). subst (Agrees (serial_words m (events h))) (sym (job_none (sightings h) t (forget_some h t ∙ idle_above t l))) (agrees_none (serial_words m (events h))))
      (cases_lt t 16)

  pub promised : Promised m h s
  promised =
      record {
        answers = reached.answers;
        conflicts = all_conflicts m h reached.answers;
        size = reached.size;
        only_then = λ a i is t w e. sym (in_place a t w i e) ∙ is;
        then = serial_then;
        in_place = in_place;
        ended_loads = reached.ended_loads;
        open_loads = open_loads;
        held = reached.held;
        reached = reached;
      }
