-- Open jobs after one more event, and sightings without their words.
use Rattle.std.proofs.Common.{◌≡◌, ℕ, Bool, true, false, cond, eqb, List, [], ◌∷◌, map, is_some, is_ok, Some, None, Option, unwrap_or, sym, refl, ap, ◌∙◌, subst, ⊎_elim}
use Rattle.std.specs.Option.{option_map}
use Rattle.std.proofs.lemmas.Bool.{cases_eq, eq-eqb, ne_eqb, both_ways}
use Rattle.store.specs.Histories.{History, Event, opens, accesses, ends, nothing, Access, Seen, event_of, events, stepped, open_job, job_of, seen_with, word_in, sightings}

module _ {X : Type 0} (es : List (Event X)) (t : ℕ) where
  pub open_opens_same : open_job (opens t ∷ es) t ≡ Some []
  unfolding open_job
  open_opens_same = rw (eq-eqb t t refl)

  pub open_opens_other : (u : ℕ) → (t ≡ u → ⊥) → open_job (opens t ∷ es) u ≡ open_job es u
  unfolding open_job
  open_opens_other u ne = rw (ne_eqb t u ne)

  pub open_accesses_same : (x : X) → open_job (accesses t x ∷ es) t ≡ option_map (λ xs. x ∷ xs) (open_job es t)
  unfolding open_job
  open_accesses_same x = rw (eq-eqb t t refl)

  pub open_accesses_other : (x : X) (u : ℕ) → (t ≡ u → ⊥) → open_job (accesses t x ∷ es) u ≡ open_job es u
  unfolding open_job
  open_accesses_other x u ne = rw (ne_eqb t u ne)

  pub open_ends_same : (c : Bool) → open_job (ends t c ∷ es) t ≡ None
  unfolding open_job
  open_ends_same c = rw (eq-eqb t t refl)

  pub open_ends_other : (c : Bool) (u : ℕ) → (t ≡ u → ⊥) → open_job (ends t c ∷ es) u ≡ open_job es u
  unfolding open_job
  open_ends_other c u ne = rw (ne_eqb t u ne)

some_mapped : {X Y : Type 0} (f : X → Y) (o : Option X) → is_some (option_map f o) ≡ is_some o
some_mapped f (Some x) = refl
some_mapped f None = refl

value_mapped : {X : Type 0} (x : X) (o : Option (List X)) → is_some o ≡ true → unwrap_or (option_map (λ xs. x ∷ xs) o) [] ≡ x ∷ unwrap_or o []
value_mapped x (Some xs) e = refl
value_mapped x None e = absurd (both_ways false refl e)

value_none : {X : Type 0} (o : Option (List X)) → is_some o ≡ false → unwrap_or o [] ≡ []
value_none (Some xs) e = absurd (both_ways true e refl)
value_none None e = refl

-- a thread without an open job has no accesses
pub job_none : {X : Type 0} (es : List (Event X)) (t : ℕ) → is_some (open_job es t) ≡ false → job_of es t ≡ []
job_none es t e = value_none (open_job es t) e

module _ {X : Type 0} (es : List (Event X)) (t : ℕ) where
  -- who opens a job has none open, so no thread's accesses change
  pub job_opens : (u : ℕ) → is_some (open_job es t) ≡ false → job_of (opens t ∷ es) u ≡ job_of es u
  job_opens u e =
      ⊎_elim
      (λ (is : t ≡ u). subst (λ v. job_of (opens t ∷ es) v ≡ job_of es v) is (ap (λ o. unwrap_or o []) (open_opens_same es t) ∙ sym (job_none es t e)))
      (λ (ne : t ≡ u → ⊥). ap (λ o. unwrap_or o []) (open_opens_other es t u ne))
      (cases_eq t u)

  pub job_accesses_same : (x : X) → is_some (open_job es t) ≡ true → job_of (accesses t x ∷ es) t ≡ x ∷ job_of es t
  job_accesses_same x e = ap (λ o. unwrap_or o []) (open_accesses_same es t x) ∙ value_mapped x (open_job es t) e

  pub job_accesses_other : (x : X) (u : ℕ) → (t ≡ u → ⊥) → job_of (accesses t x ∷ es) u ≡ job_of es u
  job_accesses_other x u ne = ap (λ o. unwrap_or o []) (open_accesses_other es t x u ne)

  pub job_ends_same : (c : Bool) → job_of (ends t c ∷ es) t ≡ []
  job_ends_same c = ap (λ o. unwrap_or o []) (open_ends_same es t c)

  pub job_ends_other : (c : Bool) (u : ℕ) → (t ≡ u → ⊥) → job_of (ends t c ∷ es) u ≡ job_of es u
  job_ends_other c u ne = ap (λ o. unwrap_or o []) (open_ends_other es t c u ne)

  -- what holds of every thread's accesses, shown by the thread that the event is about and by the others
  pub by_opens : (P : ℕ → List X → Type 0) → is_some (open_job es t) ≡ false → ((u : ℕ) → P u (job_of es u)) → (u : ℕ) → P u (job_of (opens t ∷ es) u)
  by_opens P e all u = subst (P u) (sym (job_opens u e)) (all u)

  pub by_accesses : (P : ℕ → List X → Type 0) (x : X) → is_some (open_job es t) ≡ true → P t (x ∷ job_of es t) → ((u : ℕ) → (t ≡ u → ⊥) → P u (job_of es u)) → (u : ℕ) → P u (job_of (accesses t x ∷ es) u)
  by_accesses P x e own other u =
      ⊎_elim
      (λ (is : t ≡ u). subst (λ v. P v (job_of (accesses t x ∷ es) v)) is (subst (P t) (sym (job_accesses_same x e)) own))
      (λ (ne : t ≡ u → ⊥). subst (P u) (sym (job_accesses_other x u ne)) (other u ne))
      (cases_eq t u)

  pub by_ends : (P : ℕ → List X → Type 0) (c : Bool) → P t [] → ((u : ℕ) → (t ≡ u → ⊥) → P u (job_of es u)) → (u : ℕ) → P u (job_of (ends t c ∷ es) u)
  by_ends P c own other u =
      ⊎_elim
      (λ (is : t ≡ u). subst (λ v. P v (job_of (ends t c ∷ es) v)) is (subst (P t) (sym (job_ends_same c)) own))
      (λ (ne : t ≡ u → ⊥). subst (P u) (sym (job_ends_other c u ne)) (other u ne))
      (cases_eq t u)

  -- an access leaves open what is open
  pub open_accesses : (x : X) (u : ℕ) → is_some (open_job (accesses t x ∷ es) u) ≡ is_some (open_job es u)
  open_accesses x u =
      ⊎_elim
      (λ (is : t ≡ u). subst (λ v. is_some (open_job (accesses t x ∷ es) v) ≡ is_some (open_job es v)) is (ap is_some (open_accesses_same es t x) ∙ some_mapped (λ xs. x ∷ xs) (open_job es t)))
      (λ (ne : t ≡ u → ⊥). ap is_some (open_accesses_other es t x u ne))
      (cases_eq t u)

forget_more : (x : Seen) (o : Option (List Seen)) → option_map (map (λ y. y.access)) (option_map (λ xs. x ∷ xs) o) ≡ option_map (λ xs. x.access ∷ xs) (option_map (map (λ y. y.access)) o)
forget_more x (Some xs) = refl
forget_more x None = refl

-- one event, with words and without
forget_step : (w : ℕ) (e : Event Access) (t : ℕ) (o : Option (List Seen)) → option_map (map (λ y. y.access)) (stepped (seen_with w e) t o) ≡ stepped e t (option_map (map (λ y. y.access)) o)
forget_step w (opens u) t o = go (eqb u t)
  where
    go : (b : Bool) → option_map (map (λ y. y.access)) (cond b (Some []) o) ≡ cond b (Some []) (option_map (map (λ y. y.access)) o)
    go true = refl
    go false = refl
forget_step w (accesses u x) t o = go (eqb u t)
  where
    go : (b : Bool) → option_map (map (λ y. y.access)) (cond b (option_map (λ xs. record { access = x; word = w } ∷ xs) o) o) ≡ cond b (option_map (λ xs. x ∷ xs) (option_map (map (λ y. y.access)) o)) (option_map (map (λ y. y.access)) o)
    go true = forget_more record { access = x; word = w } o
    go false = refl
forget_step w (ends u c) t o = go (eqb u t)
  where
    go : (b : Bool) → option_map (map (λ y. y.access)) (cond b None o) ≡ cond b None (option_map (map (λ y. y.access)) o)
    go true = refl
    go false = refl
forget_step w nothing t o = refl

pub forget_open : (h : History) (t : ℕ) → option_map (map (λ y. y.access)) (open_job (sightings h) t) ≡ open_job (events h) t
unfolding open_job
forget_open [] t = refl
forget_open (turn ∷ h) t =
    forget_step (word_in turn.answer) (event_of turn.call (is_ok turn.answer)) t (open_job (sightings h) t)
    ∙ ap (stepped (event_of turn.call (is_ok turn.answer)) t) (forget_open h t)

value_forgot : (o : Option (List Seen)) → map (λ y. y.access) (unwrap_or o []) ≡ unwrap_or (option_map (map (λ y. y.access)) o) []
value_forgot (Some xs) = refl
value_forgot None = refl

-- the job that was seen is the job
pub forget_job : (h : History) (t : ℕ) → map (λ y. y.access) (job_of (sightings h) t) ≡ job_of (events h) t
forget_job h t = value_forgot (open_job (sightings h) t) ∙ ap (λ o. unwrap_or o []) (forget_open h t)

-- and is open where it is
pub forget_some : (h : History) (t : ℕ) → is_some (open_job (sightings h) t) ≡ is_some (open_job (events h) t)
forget_some h t = sym (some_mapped (map (λ y. y.access)) (open_job (sightings h) t)) ∙ ap is_some (forget_open h t)
