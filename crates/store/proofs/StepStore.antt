-- A store, granted or refused.
use Rattle.std.proofs.Common.{◌≡◌, ℕ, ◌<◌, Bool, true, false, cond, ◌||◌, ltb, List, ◌∷◌, map, length, get_or, set, is_some, is_ok, Some, None, Ok, Err, Result, sym, refl, ap, ◌∙◌, subst, subst₂, ⊎_elim, arith}
use Rattle.std.proofs.lemmas.List.{length-map, length-set, get_or-set_same, get_or-set_other}
use Rattle.std.proofs.lemmas.Bool.{ltb-true, lt-ltb, cases_eq, both_ways, cond-true}
use Rattle.fault.specs.declared.Fault.{Fault}
use Rattle.fault.specs.declared.Refusal.TheVariants.{ThreadOutOfRange, UndoLogFull}
use Rattle.book.specs.declared.Take.TheVariants.{Store as StoreTake}
use Rattle.book.specs.Holdings.{Sound}
use Rattle.book.specs.Rules.{store_take, after_store}
use Rattle.memory.specs.Words.{Whole, address_fault, read_answer}
use Rattle.threads.specs.Entries.{View, logged_in, noted, noted_in}
use Rattle.threads.specs.Judgement.{Verdict, allowed, refused, room_in, room_of}
use Rattle.threads.specs.Tables.{entry_at}
use Rattle.store.specs.States.{State, and_then, block_of, store_answer, store_state, done_of}
use Rattle.store.specs.Histories.{History, Event, Access, Job, stores, Seen, accesses, events, sightings, open_job, job_of, serial_words, latest_store, touched, stored_addresses, Agrees, EndedLoads}
use Rattle.store.specs.Rules.{open_rule, room_rule, store_conflict_rule, store_rule, Answers}
use Rattle.store.specs.Reached.{Reached, record_of, holding_of}
use Rattle.store.specs.declared.Answer.{Answer}
use Rattle.store.specs.declared.Answer.TheVariants.{Done}
use Rattle.store.specs.declared.Call.TheVariants.{Store}
use Rattle.store.proofs.Alone.{latest_same, latest_other}
use Rattle.store.proofs.Blocks.{block_below, stored_block, stored_touched, untouched_block, take_answer-store, nobody_touched, after_take-other, after_take-store}
use Rattle.store.proofs.InPlace.{serial_there}
use Rattle.store.proofs.Jobs.{open_accesses, open_accesses_other, job_accesses_same, job_accesses_other, by_accesses, forget_some}
use Rattle.store.proofs.Judged.{entry_same, entry_other, judge_open, open_by}
use Rattle.store.proofs.Loads.{agrees_more}
use Rattle.store.proofs.StepNothing.{step_refused}
use Rattle.store.proofs.Undo.{logged_in-stored, noted-stores}

-- there is room for one address more, or the job stored there before
abbrev room : Job → ℕ → Bool
room j a = ltb (length (stored_addresses j)) 64 || is_some (latest_store j a)

-- how the rule of a store can go
data StoreWay (m : List ℕ) (es : List (Event Access)) (t a : ℕ) : Verdict → Type 0 where
  store_refused : (why : Fault) → StoreWay m es t a (Err why)
  store_allowed : t < 16 → is_some (open_job es t) ≡ true → a < length m → room (job_of es t) a ≡ true → store_conflict_rule es t (block_of a) ≡ allowed → StoreWay m es t a allowed

store_way : (m : List ℕ) (es : List (Event Access)) (t a : ℕ) → StoreWay m es t a (store_rule m es t a)
store_way m es t a = go (ltb t 16) (is_some (open_job es t)) (ltb a (length m)) (room (job_of es t) a) (store_conflict_rule es t (block_of a)) refl refl refl refl refl
  where
    go : (p q r o : Bool) (v : Verdict) → ltb t 16 ≡ p → is_some (open_job es t) ≡ q → ltb a (length m) ≡ r → room (job_of es t) a ≡ o → store_conflict_rule es t (block_of a) ≡ v → StoreWay m es t a (and_then (open_by t p q) (and_then (cond r allowed (Err (address_fault a))) (and_then (cond o allowed (refused (UndoLogFull a))) v)))
    go false q r o v e₁ e₂ e₃ e₄ e₅ = store_refused _
    go true false r o v e₁ e₂ e₃ e₄ e₅ = store_refused _
    go true true false o v e₁ e₂ e₃ e₄ e₅ = store_refused _
    go true true true false v e₁ e₂ e₃ e₄ e₅ = store_refused _
    go true true true true (Err f) e₁ e₂ e₃ e₄ e₅ = store_refused _
    go true true true true (Ok x) e₁ e₂ e₃ e₄ e₅ = store_allowed (ltb-true t 16 e₁) e₂ (ltb-true a (length m) e₃) e₄ e₅

module _ (m : List ℕ) (h : History) (s : State) (sound : Sound s.holds) (whole : Whole s.words) (reached : Reached m h s) (t a : ℕ) where
  take_same : t < 16 → a < length m → store_take s.holds t (block_of a) ≡ store_conflict_rule (events h) t (block_of a)
  take_same l k = take_answer-store s.holds (events h) sound reached.held t (block_of a) l (block_below a (length m) k (omega (arith, reached.size)))

  room_same : t < 16 → room_of s.table t a ≡ room_rule (events h) t a
  room_same l =
      cond-true (ltb t 16) (room_in (entry_at s.table t).undo a) (refused (ThreadOutOfRange t)) (lt-ltb t 16 l)
      ∙ ap (λ us. room_in us a) (reached.logged t l)
      ∙ ap (λ n. cond (ltb n 64 || logged_in (map (record_of (serial_words m (events h))) (stored_addresses (job_of (events h) t))) a) allowed (refused (UndoLogFull a))) (length-map (stored_addresses (job_of (events h) t)) (record_of (serial_words m (events h))))
      ∙ ap (λ q. cond (ltb (length (stored_addresses (job_of (events h) t))) 64 || q) allowed (refused (UndoLogFull a))) (logged_in-stored (serial_words m (events h)) (job_of (events h) t) a)

  -- the store answers by the rule
  pub store_same : store_answer s t a ≡ store_rule m (events h) t a
  store_same =
      ap (λ v. and_then (and_then v (and_then (read_answer s.words a) (room_of s.table t a))) (store_take s.holds t (block_of a))) (judge_open m h s reached t)
      ∙ ap (λ n. and_then (and_then (open_rule (events h) t) (and_then (cond (ltb a n) (Ok (get_or s.words a 0)) (Err (address_fault a))) (room_of s.table t a))) (store_take s.holds t (block_of a))) reached.size
      ∙ go (ltb t 16) (is_some (open_job (events h) t)) (ltb a (length m)) refl refl
    where
      go : (p q r : Bool) → ltb t 16 ≡ p → ltb a (length m) ≡ r → ◌≡◌ {A = Verdict} (and_then (and_then (open_by t p q) (and_then (cond r (Ok (get_or s.words a 0)) (Err (address_fault a))) (room_of s.table t a))) (store_take s.holds t (block_of a))) (and_then (open_by t p q) (and_then (cond r allowed (Err (address_fault a))) (and_then (room_rule (events h) t a) (store_conflict_rule (events h) t (block_of a)))))
      go false q r e₁ e₂ = refl
      go true false r e₁ e₂ = refl
      go true true false e₁ e₂ = refl
      go true true true e₁ e₂ =
          ap (λ v. and_then v (store_take s.holds t (block_of a))) (room_same (ltb-true t 16 e₁))
          ∙ ap (and_then (room_rule (events h) t a)) (take_same (ltb-true t 16 e₁) (ltb-true a (length m) e₂))

  module _ (w : ℕ) (l : t < 16) (opened : is_some (open_job (events h) t) ≡ true) (k : a < length m) (roomy : room (job_of (events h) t) a ≡ true) (clear : store_conflict_rule (events h) t (block_of a) ≡ allowed) where
    -- the entry of t afterwards
    abbrev entry : View
    entry = noted_in (entry_at s.table t) a (get_or s.words a 0)

    stored_open : (u : ℕ) → u < 16 → (entry_at (set s.table t entry) u).is_open ≡ is_some (open_job (accesses t (stores a w) ∷ events h) u)
    stored_open u n =
        ⊎_elim
        (λ (is : t ≡ u). subst (λ v. (entry_at (set s.table t entry) v).is_open ≡ is_some (open_job (events h) v)) is (ap (λ v. v.is_open) (entry_same s.table t entry reached.threads l) ∙ reached.open? t l))
        (λ (ne : t ≡ u → ⊥). ap (λ v. v.is_open) (entry_other s.table t entry u ne) ∙ reached.open? u n)
        (cases_eq t u)
        ∙ sym (open_accesses (events h) t (stores a w) u)

    -- no other job stored at the address
    elsewhere : (u : ℕ) → u < 16 → (t ≡ u → ⊥) → (b v : ℕ) → latest_store (job_of (events h) u) b ≡ Some v → b ≡ a → ⊥
    elsewhere u n ne b v e is =
        both_ways (touched (job_of (events h) u) (block_of a)) (nobody_touched (events h) t (block_of a) clear u n (λ i. ne (sym i)))
        (stored_touched (job_of (events h) u) (block_of a) (stored_block (job_of (events h) u) a v (subst (λ c. latest_store (job_of (events h) u) c ≡ Some v) is e)))

    stored_own : (b v : ℕ) → b < length m → latest_store (stores a w ∷ job_of (events h) t) b ≡ Some v → get_or (set s.words a w) b 0 ≡ v
    stored_own b v i e =
        ⊎_elim
        (λ (is : b ≡ a). let f = get_or-set_same s.words a w 0 (omega (arith, reached.size)) in let g = latest_same a w (job_of (events h) t) in cc)
        (λ (ne : b ≡ a → ⊥). get_or-set_other s.words a b w 0 ne ∙ reached.stored t b v l i (sym (latest_other a w (job_of (events h) t) b ne) ∙ e))
        (cases_eq b a)

    stored_serial : (b : ℕ) → b < length m → ((u : ℕ) → u < 16 → latest_store (job_of (accesses t (stores a w) ∷ events h) u) b ≡ None) → get_or (set s.words a w) b 0 ≡ get_or (serial_words m (events h)) b 0
    stored_serial b i none =
        let own : latest_store (stores a w ∷ job_of (events h) t) b ≡ None = subst (λ j. latest_store j b ≡ None) (job_accesses_same (events h) t (stores a w) opened) (none t l) in
        ⊎_elim
        (λ (is : b ≡ a). let g = latest_same a w (job_of (events h) t) in let z : ◌≡◌ {A = ℕ} 0 1 = cc in absurd (let bad : ⊥ = omega arith in bad))
        (λ (ne : b ≡ a → ⊥).
        get_or-set_other s.words a b w 0 ne
        ∙ reached.serial b i
        (λ u n.
        ⊎_elim
        (λ (is : t ≡ u). subst (λ v. latest_store (job_of (events h) v) b ≡ None) is (sym (latest_other a w (job_of (events h) t) b ne) ∙ own))
        (λ (ne' : t ≡ u → ⊥). subst (λ j. latest_store j b ≡ None) (job_accesses_other (events h) t (stores a w) u ne') (none u n))
        (cases_eq t u)))
        (cases_eq b a)

    -- an undo record more, unless the job stored there before
    stored_logged : (u : ℕ) → u < 16 → (entry_at (set s.table t entry) u).undo ≡ map (record_of (serial_words m (events h))) (stored_addresses (job_of (accesses t (stores a w) ∷ events h) u))
    stored_logged =
        by_accesses (events h) t (λ u j. u < 16 → (entry_at (set s.table t entry) u).undo ≡ map (record_of (serial_words m (events h))) (stored_addresses j)) (stores a w) opened
        (λ n.
        ap (λ v. v.undo) (entry_same s.table t entry reached.threads l)
        ∙ ap (λ us. noted us a (get_or s.words a 0)) (reached.logged t l)
        ∙ noted-stores (serial_words m (events h)) (job_of (events h) t) a w (get_or s.words a 0) roomy
        (serial_there m h s reached t a k (λ u i ne. untouched_block (job_of (events h) u) (block_of a) (nobody_touched (events h) t (block_of a) clear u i ne))))
        (λ u ne n. ap (λ v. v.undo) (entry_other s.table t entry u ne) ∙ reached.logged u n)

    stored_held : (u b : ℕ) → u < 16 → after_store s.holds t (block_of a) u b ≡ holding_of (job_of (accesses t (stores a w) ∷ events h) u) b
    stored_held u b =
        by_accesses (events h) t (λ u j. u < 16 → after_store s.holds t (block_of a) u b ≡ holding_of j b) (stores a w) opened
        (λ n. after_take-store s.holds (job_of (events h) t) t a w b (λ c. reached.held t c n) (take_same l k ∙ clear))
        (λ u ne n. after_take-other StoreTake s.holds t (block_of a) u b (λ is. ne (sym is)) ∙ reached.held u b n)
        u

    stored_stored : (u b v : ℕ) → u < 16 → b < length m → latest_store (job_of (accesses t (stores a w) ∷ events h) u) b ≡ Some v → get_or (set s.words a w) b 0 ≡ v
    stored_stored u b v =
        by_accesses (events h) t (λ u j. u < 16 → b < length m → latest_store j b ≡ Some v → get_or (set s.words a w) b 0 ≡ v) (stores a w) opened
        (λ n i e. stored_own b v i e)
        (λ u ne n i e. get_or-set_other s.words a b w 0 (elsewhere u n ne b v e) ∙ reached.stored u b v n i e)
        u

    abbrev seen : Seen
    seen = record { access = stores a w; word = 0 }

    stored_loads : (u : ℕ) → u < 16 → Agrees (serial_words m (events h)) (job_of (accesses t seen ∷ sightings h) u)
    stored_loads =
        by_accesses (sightings h) t (λ u j. u < 16 → Agrees (serial_words m (events h)) j) seen (forget_some h t ∙ opened)
        (λ n. agrees_more (serial_words m (events h)) seen (job_of (sightings h) t) tt (reached.open_loads t n))
        (λ u _. reached.open_loads u)

    granted_store : Ok Done ≡ done_of (store_rule m (events h) t a) → Reached m (record { call = Store t a w; answer = Ok Done } ∷ h) record { words = set s.words a w; holds = after_store s.holds t (block_of a); table = set s.table t entry }
    unfolding serial_words EndedLoads Answers
    granted_store rightly =
        record {
          size = length-set s.words a w ∙ reached.size;
          threads = length-set s.table t entry ∙ reached.threads;
          open? = stored_open;
          above = λ u n. open_accesses_other (events h) t (stores a w) u (λ is. let bad : ⊥ = omega arith in bad) ∙ reached.above u n;
          logged = stored_logged;
          held = stored_held;
          stored = stored_stored;
          serial = stored_serial;
          open_loads = stored_loads;
          ended_loads = (tt, reached.ended_loads);
          answers = (rightly, reached.answers);
        }

pub step_store : (m : List ℕ) (h : History) (s s' : State) (t a w : ℕ) (r : Result Answer Fault) → Sound s.holds → Whole s.words → r ≡ done_of (store_answer s t a) → s' ≡ store_state s t a w → Reached m h s → Reached m (record { call = Store t a w; answer = r } ∷ h) s'
step_store m h s s' t a w r sound whole answered after reached = go (store_way m (events h) t a) refl (store_same m h s sound whole reached t a)
  where
    -- the state afterwards, once the answer is known
    state_is : (v : Verdict) → store_answer s t a ≡ v → store_state s t a w ≡ cond (is_ok v) record { words = set s.words a w; holds = after_store s.holds t (block_of a); table = set s.table t (noted_in (entry_at s.table t) a (get_or s.words a 0)) } s
    state_is v e = ap (λ q. cond {A = State} (is_ok q) record { words = set s.words a w; holds = after_store s.holds t (block_of a); table = set s.table t (noted_in (entry_at s.table t) a (get_or s.words a 0)) } s) e

    go : {v : Verdict} → StoreWay m (events h) t a v → store_rule m (events h) t a ≡ v → store_answer s t a ≡ store_rule m (events h) t a → Reached m (record { call = Store t a w; answer = r } ∷ h) s'
    go (store_refused f) e same =
        subst₂ (λ q z. Reached m (record { call = Store t a w; answer = q } ∷ h) z)
        (sym (answered ∙ ap done_of (same ∙ e)))
        (sym (after ∙ state_is _ (same ∙ e)))
        (step_refused m h s (Store t a w) f (sym (ap done_of e)) reached)
    go (store_allowed l opened k roomy clear) e same =
        subst₂ (λ q z. Reached m (record { call = Store t a w; answer = q } ∷ h) z)
        (sym (answered ∙ ap done_of (same ∙ e)))
        (sym (after ∙ state_is _ (same ∙ e)))
        (granted_store m h s sound whole reached t a w l opened k roomy clear (sym (ap done_of e)))
