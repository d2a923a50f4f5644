-- A load, granted or refused.
use Rattle.std.proofs.Common.{◌≡◌, ℕ, ◌<◌, Bool, true, false, cond, ltb, List, ◌∷◌, map, length, get_or, is_some, is_ok, Some, None, Ok, Err, Result, sym, refl, ap, ◌∙◌, subst, subst₂, ⊎_elim, arith}
use Rattle.std.proofs.lemmas.Bool.{ltb-true, cases_eq}
use Rattle.fault.specs.declared.Fault.{Fault}
use Rattle.book.specs.declared.Take.TheVariants.{Load as LoadTake}
use Rattle.book.specs.Holdings.{Holdings, Sound}
use Rattle.book.specs.Rules.{load_take, after_load}
use Rattle.memory.specs.Words.{Whole, address_fault, read_answer}
use Rattle.threads.specs.Judgement.{Verdict, allowed}
use Rattle.threads.specs.Tables.{entry_at}
use Rattle.store.specs.States.{State, and_then, block_of, before_load, load_answer, load_state, word_of}
use Rattle.store.specs.Histories.{History, Event, Access, loads, Seen, accesses, events, sightings, open_job, job_of, alone, serial_words, latest_store, stored_addresses, Agrees, EndedLoads}
use Rattle.store.specs.Rules.{open_rule, load_conflict_rule, load_rule, Answers}
use Rattle.store.specs.Reached.{Reached, record_of, holding_of}
use Rattle.store.specs.declared.Answer.{Answer}
use Rattle.store.specs.declared.Answer.TheVariants.{Word}
use Rattle.store.specs.declared.Call.TheVariants.{Load}
use Rattle.store.proofs.Alone.{latest_load}
use Rattle.store.proofs.Blocks.{block_below, take_answer-load, nobody_stored, after_take-other, after_take-load}
use Rattle.store.proofs.InPlace.{own_there}
use Rattle.store.proofs.Jobs.{open_accesses, open_accesses_other, job_accesses_same, job_accesses_other, by_accesses, forget_some, forget_job}
use Rattle.store.proofs.Judged.{judge_open, open_by}
use Rattle.store.proofs.Loads.{agrees_more}
use Rattle.store.proofs.StepNothing.{step_refused}

-- how the rule of a load can go
data LoadWay (m : List ℕ) (es : List (Event Access)) (t a : ℕ) : Result ℕ Fault → Type 0 where
  load_refused : (why : Fault) → LoadWay m es t a (Err why)
  load_allowed : t < 16 → is_some (open_job es t) ≡ true → a < length m → load_conflict_rule es t (block_of a) ≡ allowed → LoadWay m es t a (Ok (get_or (alone (serial_words m es) (job_of es t)) a 0))

load_way : (m : List ℕ) (es : List (Event Access)) (t a : ℕ) → LoadWay m es t a (load_rule m es t a)
load_way m es t a = go (ltb t 16) (is_some (open_job es t)) (ltb a (length m)) (load_conflict_rule es t (block_of a)) refl refl refl refl
  where
    go : (p q r : Bool) (v : Verdict) → ltb t 16 ≡ p → is_some (open_job es t) ≡ q → ltb a (length m) ≡ r → load_conflict_rule es t (block_of a) ≡ v → LoadWay m es t a (and_then (open_by t p q) (and_then (cond r allowed (Err (address_fault a))) (and_then v (Ok (get_or (alone (serial_words m es) (job_of es t)) a 0)))))
    go false q r v e₁ e₂ e₃ e₄ = load_refused _
    go true false r v e₁ e₂ e₃ e₄ = load_refused _
    go true true false v e₁ e₂ e₃ e₄ = load_refused _
    go true true true (Err f) e₁ e₂ e₃ e₄ = load_refused _
    go true true true (Ok x) e₁ e₂ e₃ e₄ = load_allowed (ltb-true t 16 e₁) e₂ (ltb-true a (length m) e₃) e₄

-- the store answers by the rule
module _ (m : List ℕ) (h : History) (s : State) (sound : Sound s.holds) (whole : Whole s.words) (reached : Reached m h s) (t a : ℕ) where
  take_same : t < 16 → a < length m → load_take s.holds t (block_of a) ≡ load_conflict_rule (events h) t (block_of a)
  take_same l k = take_answer-load s.holds (events h) sound reached.held t (block_of a) l (block_below a (length m) k (omega (arith, reached.size)))

  pub load_same : load_answer s t a ≡ load_rule m (events h) t a
  load_same =
      ap (λ v. and_then (and_then v (and_then (read_answer s.words a) allowed)) (and_then (load_take s.holds t (block_of a)) (Ok (get_or s.words a 0)))) (judge_open m h s reached t)
      ∙ ap (λ n. and_then (and_then (open_rule (events h) t) (and_then (cond (ltb a n) (Ok (get_or s.words a 0)) (Err (address_fault a))) allowed)) (and_then (load_take s.holds t (block_of a)) (Ok (get_or s.words a 0)))) reached.size
      ∙ go (ltb t 16) (is_some (open_job (events h) t)) (ltb a (length m)) refl refl
    where
      last : (v : Verdict) → t < 16 → a < length m → load_take s.holds t (block_of a) ≡ v → load_conflict_rule (events h) t (block_of a) ≡ v → ◌≡◌ {A = Result ℕ Fault} (and_then v (Ok (get_or s.words a 0))) (and_then v (Ok (get_or (alone (serial_words m (events h)) (job_of (events h) t)) a 0)))
      last (Err f) l k e e' = refl
      last (Ok x) l k e e' = ap Ok (own_there m h s reached t a k (nobody_stored (events h) t (block_of a) e') l)

      go : (p q r : Bool) → ltb t 16 ≡ p → ltb a (length m) ≡ r → ◌≡◌ {A = Result ℕ Fault} (and_then (and_then (open_by t p q) (and_then (cond r (Ok (get_or s.words a 0)) (Err (address_fault a))) allowed)) (and_then (load_take s.holds t (block_of a)) (Ok (get_or s.words a 0)))) (and_then (open_by t p q) (and_then (cond r allowed (Err (address_fault a))) (and_then (load_conflict_rule (events h) t (block_of a)) (Ok (get_or (alone (serial_words m (events h)) (job_of (events h) t)) a 0)))))
      go false q r e₁ e₂ = refl
      go true false r e₁ e₂ = refl
      go true true false e₁ e₂ = refl
      go true true true e₁ e₂ =
          ap (λ v. and_then v (Ok (get_or s.words a 0))) (take_same (ltb-true t 16 e₁) (ltb-true a (length m) e₂))
          ∙ last (load_conflict_rule (events h) t (block_of a)) (ltb-true t 16 e₁) (ltb-true a (length m) e₂) (take_same (ltb-true t 16 e₁) (ltb-true a (length m) e₂)) refl

  -- granted: thread t's job has one load more, which answered w
  module _ (w : ℕ) (word : w ≡ get_or (alone (serial_words m (events h)) (job_of (events h) t)) a 0) (l : t < 16) (opened : is_some (open_job (events h) t) ≡ true) (k : a < length m) (clear : load_conflict_rule (events h) t (block_of a) ≡ allowed) where
    loaded_logged : (u : ℕ) → u < 16 → (entry_at s.table u).undo ≡ map (record_of (serial_words m (events h))) (stored_addresses (job_of (accesses t (loads a) ∷ events h) u))
    unfolding stored_addresses
    loaded_logged =
        by_accesses (events h) t (λ u j. u < 16 → (entry_at s.table u).undo ≡ map (record_of (serial_words m (events h))) (stored_addresses j)) (loads a) opened
        (reached.logged t)
        (λ u _. reached.logged u)

    loaded_held : (u b : ℕ) → u < 16 → after_load s.holds t (block_of a) u b ≡ holding_of (job_of (accesses t (loads a) ∷ events h) u) b
    loaded_held u b =
        by_accesses (events h) t (λ u j. u < 16 → after_load s.holds t (block_of a) u b ≡ holding_of j b) (loads a) opened
        (λ n. after_take-load s.holds (job_of (events h) t) t a b (λ c. reached.held t c n) (take_same l k ∙ clear))
        (λ u ne n. after_take-other LoadTake s.holds t (block_of a) u b (λ is. ne (sym is)) ∙ reached.held u b n)
        u

    loaded_stored : (u b v : ℕ) → u < 16 → b < length m → latest_store (job_of (accesses t (loads a) ∷ events h) u) b ≡ Some v → get_or s.words b 0 ≡ v
    loaded_stored u b v =
        by_accesses (events h) t (λ u j. u < 16 → b < length m → latest_store j b ≡ Some v → get_or s.words b 0 ≡ v) (loads a) opened
        (λ n i e. reached.stored t b v n i (sym (latest_load a (job_of (events h) t) b) ∙ e))
        (λ u _. reached.stored u b v)
        u

    loaded_serial : (b : ℕ) → b < length m → ((u : ℕ) → u < 16 → latest_store (job_of (accesses t (loads a) ∷ events h) u) b ≡ None) → get_or s.words b 0 ≡ get_or (serial_words m (events h)) b 0
    loaded_serial b i none =
        let own : latest_store (loads a ∷ job_of (events h) t) b ≡ None = subst (λ j. latest_store j b ≡ None) (job_accesses_same (events h) t (loads a) opened) (none t l) in
        reached.serial b i
        (λ u n.
        ⊎_elim
        (λ (is : t ≡ u). subst (λ v. latest_store (job_of (events h) v) b ≡ None) is (sym (latest_load a (job_of (events h) t) b) ∙ own))
        (λ (ne : t ≡ u → ⊥). subst (λ j. latest_store j b ≡ None) (job_accesses_other (events h) t (loads a) u ne) (none u n))
        (cases_eq t u))

    abbrev seen : Seen
    seen = record { access = loads a; word = w }

    loaded_loads : (u : ℕ) → u < 16 → Agrees (serial_words m (events h)) (job_of (accesses t seen ∷ sightings h) u)
    loaded_loads =
        by_accesses (sightings h) t (λ u j. u < 16 → Agrees (serial_words m (events h)) j) seen (forget_some h t ∙ opened)
        (λ n. agrees_more (serial_words m (events h)) seen (job_of (sightings h) t) (word ∙ ap (λ j. get_or (alone (serial_words m (events h)) j) a 0) (sym (forget_job h t))) (reached.open_loads t n))
        (λ u _. reached.open_loads u)

    granted_load : Ok (Word w) ≡ word_of (load_rule m (events h) t a) → Reached m (record { call = Load t a; answer = Ok (Word w) } ∷ h) record { words = s.words; holds = after_load s.holds t (block_of a); table = s.table }
    unfolding serial_words EndedLoads Answers
    granted_load rightly =
        record {
          size = reached.size;
          threads = reached.threads;
          open? = λ u n. reached.open? u n ∙ sym (open_accesses (events h) t (loads a) u);
          above = λ u n. open_accesses_other (events h) t (loads a) u (λ is. let bad : ⊥ = omega arith in bad) ∙ reached.above u n;
          logged = loaded_logged;
          held = loaded_held;
          stored = loaded_stored;
          serial = loaded_serial;
          open_loads = loaded_loads;
          ended_loads = (tt, reached.ended_loads);
          answers = (rightly, reached.answers);
        }

-- a refused load leaves the state, and a granted one the words and the table
load_state-refused : (s : State) (t a : ℕ) (f : Fault) → load_answer s t a ≡ Err f → load_state s t a ≡ s
load_state-refused s t a f = go (before_load s t a) (load_take s.holds t (block_of a)) _
  where
    go : (p q : Verdict) (H : Holdings) → and_then p (and_then q (Ok (get_or s.words a 0))) ≡ Err f → cond {A = State} (is_ok p) record { words = s.words; holds = cond (is_ok q) H s.holds; table = s.table } s ≡ s
    go (Err g) q H e = refl
    go (Ok x) (Err g) H e = refl
    go (Ok x) (Ok y) H e = let z : ◌≡◌ {A = ℕ} 0 1 = cc in absurd (let bad : ⊥ = omega arith in bad)

load_state-granted : (s : State) (t a w : ℕ) → load_answer s t a ≡ Ok w → load_state s t a ≡ record { words = s.words; holds = after_load s.holds t (block_of a); table = s.table }
load_state-granted s t a w = go (before_load s t a) (load_take s.holds t (block_of a)) _
  where
    go : (p q : Verdict) (z : State) → and_then p (and_then q (Ok (get_or s.words a 0))) ≡ Ok w → cond {A = State} (is_ok p) z s ≡ z
    go (Err g) q z e = let y : ◌≡◌ {A = ℕ} 0 1 = cc in absurd (let bad : ⊥ = omega arith in bad)
    go (Ok x) q z e = refl

pub step_load : (m : List ℕ) (h : History) (s s' : State) (t a : ℕ) (r : Result Answer Fault) → Sound s.holds → Whole s.words → r ≡ word_of (load_answer s t a) → s' ≡ load_state s t a → Reached m h s → Reached m (record { call = Load t a; answer = r } ∷ h) s'
step_load m h s s' t a r sound whole answered after reached = go (load_way m (events h) t a) refl (load_same m h s sound whole reached t a)
  where
    go : {v : Result ℕ Fault} → LoadWay m (events h) t a v → load_rule m (events h) t a ≡ v → load_answer s t a ≡ load_rule m (events h) t a → Reached m (record { call = Load t a; answer = r } ∷ h) s'
    go (load_refused f) e same =
        subst₂ (λ q z. Reached m (record { call = Load t a; answer = q } ∷ h) z)
        (sym (answered ∙ ap word_of (same ∙ e)))
        (sym (after ∙ load_state-refused s t a f (same ∙ e)))
        (step_refused m h s (Load t a) f (sym (ap word_of e)) reached)
    go (load_allowed l opened k clear) e same =
        subst₂ (λ q z. Reached m (record { call = Load t a; answer = q } ∷ h) z)
        (sym (answered ∙ ap word_of (same ∙ e)))
        (sym (after ∙ load_state-granted s t a _ (same ∙ e)))
        (granted_load m h s sound whole reached t a _ refl l opened k clear (sym (ap word_of e)))
