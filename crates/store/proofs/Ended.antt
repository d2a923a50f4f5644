-- A job that ends, by a commit or an abort: what both leave, the pair that both answer, and the step that both are.
use Rattle.std.proofs.Common.{◌≡◌, ℕ, ◌<◌, ◌≤◌, Bool, true, false, cond, eqb, List, ◌∷◌, map, length, get_or, set, is_some, is_ok, Some, None, Ok, Err, Option, Result, sym, refl, ap, ◌∙◌, subst, subst₂, ⊎_elim, arith}
use Rattle.std.proofs.lemmas.List.{length-map}
use Rattle.std.proofs.lemmas.Bool.{cases_eq, cases_Bool, lt-ltb, eq-eqb, ne_eqb, both_ways}
use Rattle.fault.specs.declared.Fault.{Fault}
use Rattle.book.specs.Holdings.{Sound}
use Rattle.book.specs.Rules.{after_release}
use Rattle.memory.specs.Words.{Whole}
use Rattle.threads.specs.Entries.{idle}
use Rattle.threads.specs.Judgement.{Verdict}
use Rattle.threads.specs.Tables.{entry_at}
use Rattle.store.specs.States.{State, block_of, Ends, EndAnswer}
use Rattle.store.specs.Histories.{History, ends, events, sightings, open_job, job_of, serial_words, latest_store, stored_in, touched, stored_addresses, Agrees}
use Rattle.store.specs.Rules.{open_rule, PairRule, EndRule, Rightly}
use Rattle.store.specs.Reached.{Reached, record_of, holding_of}
use Rattle.store.specs.declared.Answer.{Answer}
use Rattle.store.specs.declared.Answer.TheVariants.{Done, Word, Ended}
use Rattle.store.specs.declared.Call.{Call}
use Rattle.store.proofs.Alone.{some_is}
use Rattle.store.proofs.Blocks.{block_below, apart, stored_block, stored_touched, unstored_block, no_holding, figure_same}
use Rattle.store.proofs.Jobs.{open_ends_same, open_ends_other, by_ends, job_ends_other, forget_job}
use Rattle.store.proofs.Judged.{entry_same, entry_other, OpenWay, open_refused, open_allowed, open_way}
use Rattle.store.proofs.Loads.{agrees_none, agrees_same}
use Rattle.store.proofs.StepNothing.{step_refused}
use Rattle.store.proofs.Undo.{records_none, records_same}

module _ (m : List ℕ) (h : History) (s : State) (reached : Reached m h s) (t : ℕ) (l : t < 16) where
  -- the pair: the records dropped, and a figure for the blocks given back
  pub ended_pair : (answer : Answer) → Ends s t answer → PairRule (events h) t answer
  ended_pair Done e = e
  ended_pair (Word w) e = e
  ended_pair (Ended n figure) (count, released) =
      let same = figure_same s.holds (events h) t l (λ b. reached.held t b l) in (
        count ∙ ap length (reached.logged t l) ∙ length-map (stored_addresses (job_of (events h) t)) (record_of (serial_words m (events h))),
        omega (arith, same, released.1),
        omega (arith, same, released.2),
      )

  module _ (c : Bool) where
    pub ended_open : (u : ℕ) → u < 16 → (entry_at (set s.table t idle) u).is_open ≡ is_some (open_job (ends t c ∷ events h) u)
    ended_open u k =
        ⊎_elim
        (λ (is : t ≡ u). subst (λ v. (entry_at (set s.table t idle) v).is_open ≡ is_some (open_job (ends t c ∷ events h) v)) is (ap (λ v. v.is_open) (entry_same s.table t idle reached.threads l) ∙ sym (ap is_some (open_ends_same (events h) t c))))
        (λ (ne : t ≡ u → ⊥). ap (λ v. v.is_open) (entry_other s.table t idle u ne) ∙ reached.open? u k ∙ sym (ap is_some (open_ends_other (events h) t c u ne)))
        (cases_eq t u)

    pub ended_above : (u : ℕ) → 16 ≤ u → open_job (ends t c ∷ events h) u ≡ None
    ended_above u k = open_ends_other (events h) t c u (λ is. let bad : ⊥ = omega arith in bad) ∙ reached.above u k

    after_release-own : (b : ℕ) → after_release s.holds t t b ≡ 0
    after_release-own b = rw (lt-ltb t 16 l, eq-eqb t t refl)

    after_release-other : (u b : ℕ) → (t ≡ u → ⊥) → after_release s.holds t u b ≡ s.holds u b
    after_release-other u b ne = let e : eqb u t ≡ false = ne_eqb u t (λ is. ne (sym is)) in rw (lt-ltb t 16 l, e)

    pub ended_held : (u b : ℕ) → u < 16 → after_release s.holds t u b ≡ holding_of (job_of (ends t c ∷ events h) u) b
    ended_held u b =
        by_ends (events h) t (λ u j. u < 16 → after_release s.holds t u b ≡ holding_of j b) c
        (λ _. after_release-own b ∙ no_holding b)
        (λ u ne k. after_release-other u b ne ∙ reached.held u b k)
        u

    -- the words agree with the serial words where no job stored: to be shown where t stored, and where it did not
    pub ended_serial : (ws vs : List ℕ) → ((a w : ℕ) → a < length m → latest_store (job_of (events h) t) a ≡ Some w → get_or ws a 0 ≡ get_or vs a 0) → ((a : ℕ) → a < length m → latest_store (job_of (events h) t) a ≡ None → get_or s.words a 0 ≡ get_or (serial_words m (events h)) a 0 → get_or ws a 0 ≡ get_or vs a 0) → (a : ℕ) → a < length m → ((u : ℕ) → u < 16 → latest_store (job_of (ends t c ∷ events h) u) a ≡ None) → get_or ws a 0 ≡ get_or vs a 0
    ended_serial ws vs where_stored where_not a i none = go (latest_store (job_of (events h) t) a) refl
      where
        go : (o : Option ℕ) → latest_store (job_of (events h) t) a ≡ o → get_or ws a 0 ≡ get_or vs a 0
        go (Some w) e = where_stored a w i e
        go None e =
            where_not a i e
            (reached.serial a i
            (λ u k.
            ⊎_elim
            (λ (is : t ≡ u). subst (λ v. latest_store (job_of (events h) v) a ≡ None) is e)
            (λ (ne : t ≡ u → ⊥). subst (λ j. latest_store j a ≡ None) (job_ends_other (events h) t c u ne) (none u k))
            (cases_eq t u)))

    -- the serial words afterwards: as many, and alike in every block that another job touched
    module _ (vs : List ℕ) (size : length (serial_words m (events h)) ≡ length vs) (same : (u : ℕ) → u < 16 → (t ≡ u → ⊥) → (a : ℕ) → touched (job_of (events h) u) (block_of a) ≡ true → get_or (serial_words m (events h)) a 0 ≡ get_or vs a 0) where
      pub ended_logged : (u : ℕ) → u < 16 → (entry_at (set s.table t idle) u).undo ≡ map (record_of vs) (stored_addresses (job_of (ends t c ∷ events h) u))
      ended_logged =
          by_ends (events h) t (λ u j. u < 16 → (entry_at (set s.table t idle) u).undo ≡ map (record_of vs) (stored_addresses j)) c
          (λ _. ap (λ v. v.undo) (entry_same s.table t idle reached.threads l) ∙ records_none vs)
          (λ u ne k.
          ap (λ v. v.undo) (entry_other s.table t idle u ne)
          ∙ reached.logged u k
          ∙ records_same (serial_words m (events h)) vs (job_of (events h) u)
          (λ a e. let p = some_is (latest_store (job_of (events h) u) a) e in same u k ne a (stored_touched (job_of (events h) u) (block_of a) (stored_block (job_of (events h) u) a p.0 p.1))))

      pub ended_agrees : (u : ℕ) → u < 16 → Agrees vs (job_of (ends t c ∷ sightings h) u)
      ended_agrees =
          by_ends (sightings h) t (λ u j. u < 16 → Agrees vs j) c
          (λ _. agrees_none vs)
          (λ u ne k.
          agrees_same (serial_words m (events h)) vs (job_of (sightings h) u) size
          (λ a e. same u k ne a (subst (λ j. touched j (block_of a) ≡ true) (forget_job h u) e))
          (reached.open_loads u k))

  -- where another job touched, t did not store
  pub not_there : Sound s.holds → Whole s.words → (u : ℕ) → u < 16 → (t ≡ u → ⊥) → (a : ℕ) → a < length m → touched (job_of (events h) u) (block_of a) ≡ true → latest_store (job_of (events h) t) a ≡ None
  not_there sound whole u k ne a i e =
      unstored_block (job_of (events h) t) a
      (⊎_elim
      (λ (y : stored_in (job_of (events h) t) (block_of a) ≡ true). absurd (both_ways (touched (job_of (events h) u) (block_of a)) (apart s.holds (job_of (events h)) sound reached.held t u (block_of a) l k (block_below a (length m) i (omega (arith, reached.size))) (λ is. ne (sym is)) y) e))
      (λ (n : stored_in (job_of (events h) t) (block_of a) ≡ false). n)
      (cases_Bool (stored_in (job_of (events h) t) (block_of a))))

-- a call that ends a job is refused as the rule of an open job says, or else leaves what a granted end leaves
pub step_end : (m : List ℕ) (h : History) (s s' : State) (t : ℕ) (c : Call) (r : Result Answer Fault) (v : Verdict) (ended : State) → v ≡ open_rule (events h) t → EndAnswer s t v r → s' ≡ cond (is_ok v) ended s → ((q : Result Answer Fault) → EndRule (events h) t (open_rule (events h) t) q → Rightly m (events h) c q) → ((l : t < 16) (answer : Answer) → EndRule (events h) t (open_rule (events h) t) (Ok answer) → Reached m (record { call = c; answer = Ok answer } ∷ h) ended) → Reached m h s → Reached m (record { call = c; answer = r } ∷ h) s'
step_end m h s s' t c r v ended same answered is rightly granted reached =
    go (open_way (events h) t) refl r (subst (λ w. EndAnswer s t w r) same answered)
  where
    state_is : (w : Verdict) → open_rule (events h) t ≡ w → s' ≡ cond {A = State} (is_ok w) ended s
    state_is w e = is ∙ ap (λ q. cond {A = State} (is_ok q) ended s) (same ∙ e)

    go : {w : Verdict} → OpenWay (events h) t w → open_rule (events h) t ≡ w → (r : Result Answer Fault) → EndAnswer s t (open_rule (events h) t) r → Reached m (record { call = c; answer = r } ∷ h) s'
    go (open_refused f) e r ans =
        let is_err : r ≡ Err f = subst (λ w. EndAnswer s t w r) e ans in
        subst₂ (λ q z. Reached m (record { call = c; answer = q } ∷ h) z)
        (sym is_err)
        (sym (state_is _ e))
        (step_refused m h s c f (rightly (Err f) (subst (λ w. EndRule (events h) t w (Err f)) (sym e) refl)) reached)
    go (open_allowed l opened) e (Err f) ans = absurd (subst (λ w. EndAnswer s t w (Err f)) e ans)
    go (open_allowed l opened) e (Ok answer) ans =
        subst (λ z. Reached m (record { call = c; answer = Ok answer } ∷ h) z)
        (sym (state_is _ e))
        (granted l answer (subst (λ w. EndRule (events h) t w (Ok answer)) (sym e) (ended_pair m h s reached t l answer (subst (λ w. EndAnswer s t w (Ok answer)) e ans))))
