-- A commit: the job's words become serial words.
use Rattle.std.proofs.Common.{◌≡◌, ℕ, ◌<◌, ◌≤◌, true, List, ◌∷◌, length, get_or, set, Some, None, Ok, Result, sym, ◌∙◌, ⊎_elim, arith}
use Rattle.std.proofs.lemmas.List.{length-set}
use Rattle.std.proofs.lemmas.Bool.{cases_lt}
use Rattle.fault.specs.declared.Fault.{Fault}
use Rattle.book.specs.Holdings.{Sound}
use Rattle.book.specs.Rules.{after_release}
use Rattle.memory.specs.Words.{Whole}
use Rattle.threads.specs.Entries.{idle}
use Rattle.threads.specs.Judgement.{judge_of}
use Rattle.threads.specs.declared.entry.Request.TheVariants.{Commit as Commits}
use Rattle.store.specs.States.{State, block_of, EndAnswer, commit_state}
use Rattle.store.specs.Histories.{History, ends, events, job_of, alone, serial_words, latest_store, touched, EndedLoads}
use Rattle.store.specs.Rules.{open_rule, EndRule, Answers}
use Rattle.store.specs.Reached.{Reached}
use Rattle.store.specs.declared.Answer.{Answer}
use Rattle.store.specs.declared.Call.TheVariants.{Commit}
use Rattle.store.proofs.Alone.{length-alone, length-serial_words, latest_none, get_or-alone_past, get_or-alone_stored, get_or-alone_unstored}
use Rattle.store.proofs.Ended.{ended_open, ended_above, ended_held, ended_serial, ended_logged, ended_agrees, not_there, step_end}
use Rattle.store.proofs.Jobs.{by_ends}
use Rattle.store.proofs.Judged.{judge_open}

module _ (m : List ℕ) (h : History) (s : State) (sound : Sound s.holds) (whole : Whole s.words) (reached : Reached m h s) (t : ℕ) (l : t < 16) where
  abbrev after : List ℕ
  after = alone (serial_words m (events h)) (job_of (events h) t)

  -- in blocks that another job touched the serial words stay
  same_elsewhere : (u : ℕ) → u < 16 → (t ≡ u → ⊥) → (a : ℕ) → touched (job_of (events h) u) (block_of a) ≡ true → get_or (serial_words m (events h)) a 0 ≡ get_or after a 0
  same_elsewhere u k ne a e =
      ⊎_elim
      (λ (i : a < length m). sym (get_or-alone_unstored (serial_words m (events h)) (job_of (events h) t) a (not_there m h s reached t l sound whole u k ne a i e)))
      (λ (p : length m ≤ a). sym (get_or-alone_past (serial_words m (events h)) (job_of (events h) t) a (omega (arith, length-serial_words m (events h)))))
      (cases_lt a (length m))

  committed_stored : (u a w : ℕ) → u < 16 → a < length m → latest_store (job_of (ends t true ∷ events h) u) a ≡ Some w → get_or s.words a 0 ≡ w
  committed_stored u a w =
      by_ends (events h) t (λ u j. u < 16 → a < length m → latest_store j a ≡ Some w → get_or s.words a 0 ≡ w) true
      (λ _ _ e. let f = latest_none a in cc)
      (λ u _. reached.stored u a w)
      u

  committed_serial : (a : ℕ) → a < length m → ((u : ℕ) → u < 16 → latest_store (job_of (ends t true ∷ events h) u) a ≡ None) → get_or s.words a 0 ≡ get_or after a 0
  committed_serial =
      ended_serial m h s reached t l true s.words after
      (λ a w i e. reached.stored t a w l i e ∙ sym (get_or-alone_stored (serial_words m (events h)) (job_of (events h) t) a w (omega (arith, length-serial_words m (events h))) e))
      (λ a i e found. found ∙ sym (get_or-alone_unstored (serial_words m (events h)) (job_of (events h) t) a e))

  granted_commit : (answer : Answer) → EndRule (events h) t (open_rule (events h) t) (Ok answer) → Reached m (record { call = Commit t; answer = Ok answer } ∷ h) record { words = s.words; holds = after_release s.holds t; table = set s.table t idle }
  unfolding serial_words EndedLoads Answers
  granted_commit answer rightly =
      record {
        size = reached.size;
        threads = length-set s.table t idle ∙ reached.threads;
        open? = ended_open m h s reached t l true;
        above = ended_above m h s reached t l true;
        logged = ended_logged m h s reached t l true after (sym (length-alone (serial_words m (events h)) (job_of (events h) t))) same_elsewhere;
        held = ended_held m h s reached t l true;
        stored = committed_stored;
        serial = committed_serial;
        open_loads = ended_agrees m h s reached t l true after (sym (length-alone (serial_words m (events h)) (job_of (events h) t))) same_elsewhere;
        ended_loads = (reached.open_loads t l, reached.ended_loads);
        answers = (rightly, reached.answers);
      }

pub step_commit : (m : List ℕ) (h : History) (s s' : State) (t : ℕ) (r : Result Answer Fault) → Sound s.holds → Whole s.words → EndAnswer s t (judge_of s.table t Commits) r → s' ≡ commit_state s t → Reached m h s → Reached m (record { call = Commit t; answer = r } ∷ h) s'
step_commit m h s s' t r sound whole answered is reached =
    step_end m h s s' t (Commit t) r _ _ (judge_open m h s reached t) answered is (λ _ rightly. rightly) (λ l. granted_commit m h s sound whole reached t l) reached
