-- An abort: the old words are put back.
use Rattle.std.proofs.Common.{◌≡◌, ℕ, ◌<◌, false, List, ◌∷◌, map, length, get_or, set, Some, None, Ok, Result, refl, ap, ◌∙◌, arith}
use Rattle.std.proofs.lemmas.List.{length-set}
use Rattle.fault.specs.declared.Fault.{Fault}
use Rattle.book.specs.Holdings.{Sound}
use Rattle.book.specs.Rules.{after_release}
use Rattle.memory.specs.Words.{Whole}
use Rattle.threads.specs.Entries.{idle}
use Rattle.threads.specs.Judgement.{judge_of}
use Rattle.threads.specs.Tables.{entry_at}
use Rattle.threads.specs.declared.entry.Request.TheVariants.{Abort as Aborts}
use Rattle.store.specs.States.{State, block_of, EndAnswer, put_back, abort_state}
use Rattle.store.specs.Histories.{History, ends, events, job_of, serial_words, latest_store, stored_addresses, EndedLoads}
use Rattle.store.specs.Rules.{open_rule, EndRule, Answers}
use Rattle.store.specs.Reached.{Reached, record_of}
use Rattle.store.specs.declared.Answer.{Answer}
use Rattle.store.specs.declared.Call.TheVariants.{Abort}
use Rattle.store.proofs.Alone.{latest_none}
use Rattle.store.proofs.Blocks.{stored_block, stored_touched}
use Rattle.store.proofs.Ended.{ended_open, ended_above, ended_held, ended_serial, ended_logged, ended_agrees, not_there, step_end}
use Rattle.store.proofs.Jobs.{by_ends}
use Rattle.store.proofs.Judged.{judge_open}
use Rattle.store.proofs.Undo.{length-put_back, get_or-put_back_stored, get_or-put_back_other}

module _ (m : List ℕ) (h : History) (s : State) (sound : Sound s.holds) (whole : Whole s.words) (reached : Reached m h s) (t : ℕ) (l : t < 16) where
  -- the words in place after the undo
  abbrev after : List ℕ
  after = put_back s.words (entry_at s.table t).undo

  after_is : after ≡ put_back s.words (map (record_of (serial_words m (events h))) (stored_addresses (job_of (events h) t)))
  after_is = ap (put_back s.words) (reached.logged t l)

  undone : (a w : ℕ) → a < length m → latest_store (job_of (events h) t) a ≡ Some w → get_or after a 0 ≡ get_or (serial_words m (events h)) a 0
  undone a w i e = ap (λ ws. get_or ws a 0) after_is ∙ get_or-put_back_stored s.words (serial_words m (events h)) (job_of (events h) t) a w (omega (arith, reached.size)) e

  left_there : (a : ℕ) → a < length m → latest_store (job_of (events h) t) a ≡ None → get_or after a 0 ≡ get_or s.words a 0
  left_there a i e = ap (λ ws. get_or ws a 0) after_is ∙ get_or-put_back_other s.words (serial_words m (events h)) (job_of (events h) t) a (omega (arith, reached.size)) e

  aborted_stored : (u a w : ℕ) → u < 16 → a < length m → latest_store (job_of (ends t false ∷ events h) u) a ≡ Some w → get_or after a 0 ≡ w
  aborted_stored u a w =
      by_ends (events h) t (λ u j. u < 16 → a < length m → latest_store j a ≡ Some w → get_or after a 0 ≡ w) false
      (λ _ _ e. let f = latest_none a in cc)
      (λ u ne k i e. left_there a i (not_there m h s reached t l sound whole u k ne a i (stored_touched (job_of (events h) u) (block_of a) (stored_block (job_of (events h) u) a w e))) ∙ reached.stored u a w k i e)
      u

  aborted_serial : (a : ℕ) → a < length m → ((u : ℕ) → u < 16 → latest_store (job_of (ends t false ∷ events h) u) a ≡ None) → get_or after a 0 ≡ get_or (serial_words m (events h)) a 0
  aborted_serial =
      ended_serial m h s reached t l false after (serial_words m (events h)) undone (λ a i e found. left_there a i e ∙ found)

  granted_abort : (answer : Answer) → EndRule (events h) t (open_rule (events h) t) (Ok answer) → Reached m (record { call = Abort t; answer = Ok answer } ∷ h) record { words = after; holds = after_release s.holds t; table = set s.table t idle }
  unfolding serial_words EndedLoads Answers
  granted_abort answer rightly =
      record {
        size = length-put_back s.words (entry_at s.table t).undo ∙ reached.size;
        threads = length-set s.table t idle ∙ reached.threads;
        open? = ended_open m h s reached t l false;
        above = ended_above m h s reached t l false;
        logged = ended_logged m h s reached t l false (serial_words m (events h)) refl (λ _ _ _ _ _. refl);
        held = ended_held m h s reached t l false;
        stored = aborted_stored;
        serial = aborted_serial;
        open_loads = ended_agrees m h s reached t l false (serial_words m (events h)) refl (λ _ _ _ _ _. refl);
        ended_loads = (reached.open_loads t l, reached.ended_loads);
        answers = (rightly, reached.answers);
      }

pub step_abort : (m : List ℕ) (h : History) (s s' : State) (t : ℕ) (r : Result Answer Fault) → Sound s.holds → Whole s.words → EndAnswer s t (judge_of s.table t Aborts) r → s' ≡ abort_state s t → Reached m h s → Reached m (record { call = Abort t; answer = r } ∷ h) s'
step_abort m h s s' t r sound whole answered is reached =
    step_end m h s s' t (Abort t) r _ _ (judge_open m h s reached t) answered is (λ _ rightly. rightly) (λ l. granted_abort m h s sound whole reached t l) reached
