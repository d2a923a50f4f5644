-- Blocks that jobs touched: what the book holds for them, who may touch them, and who refuses a take.
use Rattle.std.proofs.Common.{◌≡◌, ℕ, zero, suc, ◌<◌, ◌≤◌, Bool, true, false, cond, not, ◌&&◌, ◌||◌, eqb, ltb, leb, List, [], ◌∷◌, is_ok, Some, None, Option, sym, refl, ap, ◌∙◌, ⊎_elim, arith}
use Rattle.std.proofs.lemmas.Bool.{cases_Bool, cases_eq, eq-eqb, ne_eqb, both_ways, or_left, or_right, cond-true, lt-ltb, leb-true}
use Rattle.std.proofs.lemmas.Bool.Decides.{nat_tests}
use Rattle.fault.specs.declared.Refusal.{Refusal}
use Rattle.fault.specs.declared.Refusal.TheVariants.{LoadConflict, StoreConflict}
use Rattle.book.specs.declared.Take.{Take}
use Rattle.book.specs.declared.Take.TheVariants.{Load, Store}
use Rattle.book.specs.Holdings.{Holdings, Sound, first_below, count_below, blocks_held, is_in_the_way, lowest_in_the_way, put, wanted}
use Rattle.book.specs.Rules.{granted, unless_barred, take_answer, after_take}
use Rattle.book.proofs.Below.{lowest-at, lowest-only}
use Rattle.threads.specs.Judgement.{allowed}
use Rattle.store.specs.States.{block_of}
use Rattle.store.specs.Histories.{Event, Access, loads, stores, Job, job_of, latest_store, stored_in, touched}
use Rattle.store.specs.Rules.{stored_by_other, touched_by_other, unless_held, load_conflict_rule, store_conflict_rule, blocks_touched}
use Rattle.store.specs.Reached.{holding_of}
use Rattle.store.proofs.Alone.{latest_other}

-- the block of an address in a memory of at most 64 blocks
pub block_below : (a n : ℕ) → a < n → n ≤ 512 → block_of a < 64
block_below a n l m = omega arith

pub no_holding : (b : ℕ) → 0 ≡ holding_of [] b
unfolding stored_in touched
no_holding b = refl

pub touched-load : (a : ℕ) (j : Job) (b : ℕ) → touched (loads a ∷ j) b ≡ (eqb (block_of a) b || touched j b)
unfolding touched
touched-load a j b = refl

pub touched-store : (a w : ℕ) (j : Job) (b : ℕ) → touched (stores a w ∷ j) b ≡ (eqb (block_of a) b || touched j b)
unfolding touched
touched-store a w j b = refl

-- a store at an address is a store in its block
pub stored_block : (j : Job) (a w : ℕ) → latest_store j a ≡ Some w → stored_in j (block_of a) ≡ true
unfolding latest_store stored_in
stored_block [] a w e = let z : ◌≡◌ {A = ℕ} 0 1 = cc in absurd (let bad : ⊥ = omega arith in bad)
stored_block (loads b ∷ j) a w e = stored_block j a w e
stored_block (stores b v ∷ j) a w e =
    ⊎_elim
    (λ (is : a ≡ b). or_left (eqb (block_of b) (block_of a)) (stored_in j (block_of a)) (eq-eqb (block_of b) (block_of a) (ap block_of (sym is))))
    (λ (ne : a ≡ b → ⊥). or_right (eqb (block_of b) (block_of a)) (stored_in j (block_of a)) (stored_block j a w (sym (latest_other b v j a ne) ∙ e)))
    (cases_eq a b)

or_map : (p q r : Bool) → (q ≡ true → r ≡ true) → (p || q) ≡ true → (p || r) ≡ true
or_map true q r f e = refl
or_map false q r f e = f e

-- and a store in a block touches it
pub stored_touched : (j : Job) (b : ℕ) → stored_in j b ≡ true → touched j b ≡ true
unfolding stored_in touched
stored_touched [] b e = e
stored_touched (loads a ∷ j) b e = or_right (eqb (block_of a) b) (touched j b) (stored_touched j b e)
stored_touched (stores a w ∷ j) b e = or_map (eqb (block_of a) b) (stored_in j b) (touched j b) (stored_touched j b) e

none_from : (o : Option ℕ) → ((w : ℕ) → o ≡ Some w → ⊥) → o ≡ None
none_from (Some w) never = absurd (never w refl)
none_from None never = refl

-- no store in the block, so none at its addresses
pub unstored_block : (j : Job) (a : ℕ) → stored_in j (block_of a) ≡ false → latest_store j a ≡ None
unstored_block j a e = none_from (latest_store j a) (λ w is. both_ways (stored_in j (block_of a)) e (stored_block j a w is))

pub untouched_block : (j : Job) (b : ℕ) → touched j b ≡ false → stored_in j b ≡ false
untouched_block j b e = ⊎_elim (λ (y : stored_in j b ≡ true). absurd (both_ways (touched j b) e (stored_touched j b y))) (λ (n : stored_in j b ≡ false). n) (cases_Bool (stored_in j b))

-- jobs whose holdings a sound book has
module _ (H : Holdings) (jobs : ℕ → Job) (sound : Sound H) (held : (t b : ℕ) → t < 16 → H t b ≡ holding_of (jobs t) b) where
  -- where one job stored, no other touched
  pub apart : (t u b : ℕ) → t < 16 → u < 16 → b < 64 → (u ≡ t → ⊥) → stored_in (jobs t) b ≡ true → touched (jobs u) b ≡ false
  apart t u b l m n ne e =
      ⊎_elim
      (λ (y : touched (jobs u) b ≡ true). absurd (go (stored_in (jobs u) b) (touched (jobs u) b) y (sym (held u b m) ∙ sound.alone t u b l m n ne (held t b l ∙ cond-true _ _ _ e))))
      (λ (f : touched (jobs u) b ≡ false). f)
      (cases_Bool (touched (jobs u) b))
    where
      go : (p q : Bool) → q ≡ true → ◌≡◌ {A = ℕ} (cond p 64 (cond q 1 0)) 0 → ⊥
      go true q y z = omega arith
      go false true y z = omega arith
      go false false y z = both_ways false refl y

first_same : (p q : ℕ → Bool) (n : ℕ) → ((k : ℕ) → k < n → p k ≡ q k) → first_below p n ≡ first_below q n
unfolding first_below
first_same p q zero same = refl
first_same p q (suc n) same = let e = first_same p q n (λ k l. same k (omega arith)) in let f = same n (omega arith) in cc

count_same : (p q : ℕ → Bool) (n : ℕ) → ((k : ℕ) → k < n → p k ≡ q k) → count_below p n ≡ count_below q n
unfolding count_below
count_same p q zero same = refl
count_same p q (suc n) same = let e = count_same p q n (λ k l. same k (omega arith)) in let f = same n (omega arith) in cc

held_touched : (v : ℕ) (p q : Bool) → (p ≡ true → q ≡ true) → v ≡ cond p 64 (cond q 1 0) → ltb 0 v ≡ q
held_touched v true q f e = let g = f refl in rw e (sym g)
held_touched v false true f e = rw e refl
held_touched v false false f e = rw e refl

-- the book's figure counts the blocks touched
pub figure_same : (H : Holdings) (es : List (Event Access)) (t : ℕ) → t < 16 → ((b : ℕ) → H t b ≡ holding_of (job_of es t) b) → blocks_held H t ≡ blocks_touched es t
figure_same H es t l held = count_same (λ b. ltb 0 (H t b)) (touched (job_of es t)) 64 (λ b m. held_touched (H t b) (stored_in (job_of es t) b) (touched (job_of es t) b) (stored_touched (job_of es t) b) (held b))

-- a thread in the way is told alike by the book and by the history
barred_load : (o : Option ℕ) → unless_barred Load o ≡ unless_held LoadConflict o
barred_load (Some u) = refl
barred_load None = refl

barred_store : (o : Option ℕ) → unless_barred Store o ≡ unless_held StoreConflict o
barred_store (Some u) = refl
barred_store None = refl

way_load : (v : ℕ) (n p q : Bool) → v ≡ cond p 64 (cond q 1 0) → (n && leb 64 v) ≡ (n && p)
way_load v n true q e = rw e refl
way_load v n false true e = rw e refl
way_load v n false false e = rw e refl

way_store : (v : ℕ) (n p q : Bool) → (p ≡ true → q ≡ true) → v ≡ cond p 64 (cond q 1 0) → (n && leb 1 v) ≡ (n && q)
way_store v n true q f e = let g = f refl in rw (e, g) refl
way_store v n false true f e = rw e refl
way_store v n false false f e = rw e refl

module _ (H : Holdings) (es : List (Event Access)) (sound : Sound H) (held : (t b : ℕ) → t < 16 → H t b ≡ holding_of (job_of es t) b) (t b : ℕ) (l : t < 16) (m : b < 64) where
  -- where t's holding suffices for a load, no other stored
  clear_load : 1 ≤ H t b → (u : ℕ) → u < 16 → stored_by_other es t b u ≡ false
  clear_load n u k = ⊎_elim (λ (is : u ≡ t). rw (eq-eqb u t is) refl) (λ (ne : u ≡ t → ⊥). go (not (eqb u t)) (stored_in (job_of es u) b) (λ y. let e : H t b ≡ 0 = sound.alone u t b k l m (λ is. ne (sym is)) (held u b k ∙ cond-true _ _ _ y) in omega arith)) (cases_eq u t)
    where
      go : (p q : Bool) → (q ≡ true → ⊥) → (p && q) ≡ false
      go true true f = absurd (f refl)
      go true false f = refl
      go false q f = refl

  clear_store : 64 ≤ H t b → (u : ℕ) → u < 16 → touched_by_other es t b u ≡ false
  clear_store n u k = ⊎_elim (λ (is : u ≡ t). rw (eq-eqb u t is) refl) (λ (ne : u ≡ t → ⊥). go (not (eqb u t)) (touched (job_of es u) b) (apart H (job_of es) sound held t u b l k m ne (all_held (stored_in (job_of es t) b) (touched (job_of es t) b) (held t b l)))) (cases_eq u t)
    where
      go : (p q : Bool) → q ≡ false → (p && q) ≡ false
      go true q f = f
      go false q f = refl

      all_held : (p q : Bool) → H t b ≡ cond p 64 (cond q 1 0) → p ≡ true
      all_held true q e = refl
      all_held false true e = absurd (let bad : ⊥ = omega arith in bad)
      all_held false false e = absurd (let bad : ⊥ = omega arith in bad)

  -- the book refuses exactly what the history refuses
  pub take_answer-load : take_answer Load H t b ≡ load_conflict_rule es t b
  take_answer-load = rw (lt-ltb t 16 l, lt-ltb b 64 m) (go (leb 1 (H t b)) refl)
    where
      go : (p : Bool) → leb 1 (H t b) ≡ p → cond p granted (unless_barred Load (lowest_in_the_way Load H t b)) ≡ load_conflict_rule es t b
      go true e = sym (ap (unless_held LoadConflict) (lowest-only (stored_by_other es t b) 16 None (clear_load (leb-true 1 (H t b) e))))
      go false e = barred_load (lowest_in_the_way Load H t b) ∙ ap (unless_held LoadConflict) (first_same (is_in_the_way Load H t b) (stored_by_other es t b) 16 (λ u k. way_load (H u b) (not (eqb u t)) (stored_in (job_of es u) b) (touched (job_of es u) b) (held u b k)))

  pub take_answer-store : take_answer Store H t b ≡ store_conflict_rule es t b
  take_answer-store = rw (lt-ltb t 16 l, lt-ltb b 64 m) (go (leb 64 (H t b)) refl)
    where
      go : (p : Bool) → leb 64 (H t b) ≡ p → cond p granted (unless_barred Store (lowest_in_the_way Store H t b)) ≡ store_conflict_rule es t b
      go true e = sym (ap (unless_held StoreConflict) (lowest-only (touched_by_other es t b) 16 None (clear_store (leb-true 64 (H t b) e))))
      go false e = barred_store (lowest_in_the_way Store H t b) ∙ ap (unless_held StoreConflict) (first_same (is_in_the_way Store H t b) (touched_by_other es t b) 16 (λ u k. way_store (H u b) (not (eqb u t)) (stored_in (job_of es u) b) (touched (job_of es u) b) (stored_touched (job_of es u) b) (held u b k)))

unheld_none : (why : ℕ → Refusal) (o : Option ℕ) → unless_held why o ≡ allowed → o ≡ None
unheld_none why (Some u) e = let z : ◌≡◌ {A = ℕ} 0 1 = cc in absurd (let bad : ⊥ = omega arith in bad)
unheld_none why None e = refl

other_false : (u t : ℕ) (q : Bool) → (u ≡ t → ⊥) → (not (eqb u t) && q) ≡ false → q ≡ false
other_false u t q ne e = rw (ne_eqb u t ne) at e

-- a granted load: no other job stored in the block
pub nobody_stored : (es : List (Event Access)) (t b : ℕ) → load_conflict_rule es t b ≡ allowed → (u : ℕ) → u < 16 → (u ≡ t → ⊥) → stored_in (job_of es u) b ≡ false
nobody_stored es t b e u l ne = other_false u t (stored_in (job_of es u) b) ne (lowest-at (stored_by_other es t b) 16 (unheld_none LoadConflict (first_below (stored_by_other es t b) 16) e) u l)

-- a granted store: no other job touched it
pub nobody_touched : (es : List (Event Access)) (t b : ℕ) → store_conflict_rule es t b ≡ allowed → (u : ℕ) → u < 16 → (u ≡ t → ⊥) → touched (job_of es u) b ≡ false
nobody_touched es t b e u l ne = other_false u t (touched (job_of es u) b) ne (lowest-at (touched_by_other es t b) 16 (unheld_none StoreConflict (first_below (touched_by_other es t b) 16) e) u l)

-- a take alters no other thread's holdings
pub after_take-other : (k : Take) (H : Holdings) (t b u c : ℕ) → (u ≡ t → ⊥) → after_take k H t b u c ≡ H u c
after_take-other k H t b u c ne = go (is_ok (take_answer k H t b)) (leb (wanted k) (H t b))
  where
    go : (p q : Bool) → cond p (cond q H (put H t b (wanted k))) H u c ≡ H u c
    go true true = refl
    go true false = rw (ne_eqb u t ne)
    go false q = refl

-- after a granted load the book has what the longer job holds
pub after_take-load : (H : Holdings) (j : Job) (t a c : ℕ) → ((b : ℕ) → H t b ≡ holding_of j b) → take_answer Load H t (block_of a) ≡ granted → after_take Load H t (block_of a) t c ≡ holding_of (loads a ∷ j) c
unfolding stored_in touched
after_take-load H j t a c held e = rw (ap is_ok e) (go (leb 1 (H t (block_of a))) refl)
  where
    go : (q : Bool) → leb 1 (H t (block_of a)) ≡ q → cond q H (put H t (block_of a) 1) t c ≡ holding_of (loads a ∷ j) c
    go true f = let g = held c in let k = held (block_of a) in grind (arith, nat_tests)
    go false f = let g = held c in let k = held (block_of a) in grind (arith, nat_tests)

-- and after a granted store
pub after_take-store : (H : Holdings) (j : Job) (t a w c : ℕ) → ((b : ℕ) → H t b ≡ holding_of j b) → take_answer Store H t (block_of a) ≡ granted → after_take Store H t (block_of a) t c ≡ holding_of (stores a w ∷ j) c
unfolding stored_in touched
after_take-store H j t a w c held e = rw (ap is_ok e) (go (leb 64 (H t (block_of a))) refl)
  where
    go : (q : Bool) → leb 64 (H t (block_of a)) ≡ q → cond q H (put H t (block_of a) 64) t c ≡ holding_of (stores a w ∷ j) c
    go true f = let g = held c in let k = held (block_of a) in grind (arith, nat_tests)
    go false f = let g = held c in let k = held (block_of a) in grind (arith, nat_tests)
