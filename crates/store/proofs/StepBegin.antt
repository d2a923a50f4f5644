-- A job begins.
use Rattle.std.proofs.Common.{◌≡◌, ℕ, ◌<◌, false, List, ◌∷◌, map, length, get_or, set, is_some, Some, None, Ok, Result, sym, refl, ap, ◌∙◌, subst, subst₂, ⊎_elim, arith}
use Rattle.std.proofs.lemmas.List.{length-set}
use Rattle.std.proofs.lemmas.Bool.{cases_eq}
use Rattle.fault.specs.declared.Fault.{Fault}
use Rattle.threads.specs.Entries.{begun}
use Rattle.threads.specs.Judgement.{Verdict}
use Rattle.threads.specs.Tables.{entry_at}
use Rattle.store.specs.States.{State, begin_answer, begin_state, done_of}
use Rattle.store.specs.Histories.{History, opens, events, sightings, open_job, job_of, serial_words, latest_store, stored_addresses, Agrees, EndedLoads}
use Rattle.store.specs.Rules.{begin_rule, Answers}
use Rattle.store.specs.Reached.{Reached, record_of, holding_of}
use Rattle.store.specs.declared.Answer.{Answer}
use Rattle.store.specs.declared.Answer.TheVariants.{Done}
use Rattle.store.specs.declared.Call.TheVariants.{Begin}
use Rattle.store.proofs.Jobs.{open_opens_same, open_opens_other, job_none, job_opens, by_opens, forget_some}
use Rattle.store.proofs.Judged.{entry_same, entry_other, judge_begin, BeginWay, begin_refused, begin_allowed, begin_way}
use Rattle.store.proofs.StepNothing.{step_refused}
use Rattle.store.proofs.Undo.{records_none}

module _ (m : List ℕ) (h : History) (s : State) (t : ℕ) (l : t < 16) (idles : is_some (open_job (events h) t) ≡ false) (reached : Reached m h s) where
  begun_open : (u : ℕ) → u < 16 → (entry_at (set s.table t begun) u).is_open ≡ is_some (open_job (opens t ∷ events h) u)
  begun_open u k =
      ⊎_elim
      (λ (is : t ≡ u). subst (λ v. (entry_at (set s.table t begun) v).is_open ≡ is_some (open_job (opens t ∷ events h) v)) is (ap (λ v. v.is_open) (entry_same s.table t begun reached.threads l) ∙ sym (ap is_some (open_opens_same (events h) t))))
      (λ (ne : t ≡ u → ⊥). ap (λ v. v.is_open) (entry_other s.table t begun u ne) ∙ reached.open? u k ∙ sym (ap is_some (open_opens_other (events h) t u ne)))
      (cases_eq t u)

  begun_logged : (u : ℕ) → u < 16 → (entry_at (set s.table t begun) u).undo ≡ map (record_of (serial_words m (events h))) (stored_addresses (job_of (events h) u))
  begun_logged u k =
      ⊎_elim
      (λ (is : t ≡ u). subst (λ v. (entry_at (set s.table t begun) v).undo ≡ map (record_of (serial_words m (events h))) (stored_addresses (job_of (events h) v))) is (ap (λ v. v.undo) (entry_same s.table t begun reached.threads l) ∙ records_none (serial_words m (events h)) ∙ ap (λ j. map (record_of (serial_words m (events h))) (stored_addresses j)) (sym (job_none (events h) t idles))))
      (λ (ne : t ≡ u → ⊥). ap (λ v. v.undo) (entry_other s.table t begun u ne) ∙ reached.logged u k)
      (cases_eq t u)

  granted_begin : Ok Done ≡ done_of (begin_rule (events h) t) → Reached m (record { call = Begin t; answer = Ok Done } ∷ h) record { words = s.words; holds = s.holds; table = set s.table t begun }
  unfolding serial_words EndedLoads Answers
  granted_begin rightly =
      record {
        size = reached.size;
        threads = length-set s.table t begun ∙ reached.threads;
        open? = begun_open;
        above = λ u k. open_opens_other (events h) t u (λ is. let bad : ⊥ = omega arith in bad) ∙ reached.above u k;
        logged = by_opens (events h) t (λ u j. u < 16 → (entry_at (set s.table t begun) u).undo ≡ map (record_of (serial_words m (events h))) (stored_addresses j)) idles begun_logged;
        held = λ u b. by_opens (events h) t (λ u j. u < 16 → s.holds u b ≡ holding_of j b) idles (λ u. reached.held u b) u;
        stored = λ u a w. by_opens (events h) t (λ u j. u < 16 → a < length m → latest_store j a ≡ Some w → get_or s.words a 0 ≡ w) idles (λ u. reached.stored u a w) u;
        serial = λ a k none. reached.serial a k (λ u n. subst (λ j. latest_store j a ≡ None) (job_opens (events h) t u idles) (none u n));
        open_loads = by_opens (sightings h) t (λ u j. u < 16 → Agrees (serial_words m (events h)) j) (forget_some h t ∙ idles) reached.open_loads;
        ended_loads = (tt, reached.ended_loads);
        answers = (rightly, reached.answers);
      }

pub step_begin : (m : List ℕ) (h : History) (s s' : State) (t : ℕ) (r : Result Answer Fault) → r ≡ done_of (begin_answer s t) → s' ≡ begin_state s t → Reached m h s → Reached m (record { call = Begin t; answer = r } ∷ h) s'
step_begin m h s s' t r answered after reached = go (begin_way (events h) t) refl (judge_begin m h s reached t)
  where
    go : {v : Verdict} → BeginWay (events h) t v → begin_rule (events h) t ≡ v → begin_answer s t ≡ begin_rule (events h) t → Reached m (record { call = Begin t; answer = r } ∷ h) s'
    go (begin_refused f) e same =
        subst₂ (λ q z. Reached m (record { call = Begin t; answer = q } ∷ h) z)
        (sym (answered ∙ ap done_of (same ∙ e)))
        (sym (after ∙ rw (same ∙ e) refl))
        (step_refused m h s (Begin t) f (sym (ap done_of e)) reached)
    go (begin_allowed l idles) e same =
        subst₂ (λ q z. Reached m (record { call = Begin t; answer = q } ∷ h) z)
        (sym (answered ∙ ap done_of (same ∙ e)))
        (sym (after ∙ rw (same ∙ e) refl))
        (granted_begin m h s t l idles reached (sym (ap done_of e)))
