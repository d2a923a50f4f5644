-- The calls of the two jobs are granted, one after the other, and what they lead to.
use Rattle.std.proofs.Common.{◌≡◌, ℕ, ◌<◌, Bool, true, false, cond, List, [], ◌∷◌, length, get_or, Some, None, Ok, Err, Option, Result, refl, ap, subst, sym, ◌∙◌, arith, nat_eq, nat_lt}
use Rattle.std.specs.Option.{option_map, unwrap_or}
use Rattle.fault.specs.declared.Fault.{Fault}
use Rattle.book.specs.Holdings.{Holdings, first_below}
use Rattle.book.specs.Moves.{Move}
use Rattle.store.specs.Histories.{History, Job, Access, loads, stores, events, open_job, serial_words, alone, latest_store, stored_in, touched, stored_addresses}
use Rattle.store.specs.Moved.{Releases, MovedBy, Leaves, move_of}
use Rattle.store.specs.Promises.{start, onward}
use Rattle.store.specs.Reached.{Reached, Carries}
use Rattle.store.specs.Rules.{Rightly, Answers}
use Rattle.store.specs.States.{state_of, done_of, word_of, ended_of}
use Rattle.memory.specs.Words.{read_answer, address_fault}
use Rattle.store.specs.declared.Answer.{Answer}
use Rattle.store.specs.declared.Answer.TheVariants.{Done, Word}
use Rattle.store.specs.declared.Call.{Call}
use Rattle.store.specs.declared.Call.TheVariants.{Begin, Load, Store, Commit, Abort}
use Rattle.store.specs.declared.Store.{Store as TheStore}
use Rattle.examples.specs.declared.jobs.Ended.{Ended as Outcome}
use Rattle.examples.specs.Jobs.{first_words, granted, Led, abort_turns, commit_turns}

-- no call yet
pub led_fresh : {M B : Type 0} {words : M → List ℕ} {holding : B → Holdings} {R : B → Move → B → Type 0} {book : B} {m : List ℕ} {s : TheStore M B} → m ≡ first_words → Releases R book 16 s.book → Reached m [] (state_of words holding s) → Led words holding R book [] s
led_fresh {words = words} {holding = holding} {s = s} e released reached =
    record {
      first = s.book;
      released = released;
      reached = subst (λ (ws : List ℕ). Reached ws [] (state_of words holding s)) e reached;
      travelled = start;
    }

-- what the rules say of the next answer
pub rightly : {M B : Type 0} {words : M → List ℕ} {holding : B → Holdings} {R : B → Move → B → Type 0} {book : B} {h : History} {s : TheStore M B} (s' : TheStore M B) (c : Call) (r : Result Answer Fault) → Led words holding R book h s → Carries (state_of words holding s) c r (state_of words holding s') → Rightly first_words (events h) c r
unfolding Answers
rightly {h = h} s' c r led carries = (carries first_words h led.reached).answers.0

-- one granted call more
pub led_more : {M B : Type 0} {words : M → List ℕ} {beyond : M → List (List ℕ)} {holding : B → Holdings} {R : B → Move → B → Type 0} {book : B} {h : History} {s s' : TheStore M B} (c : Call) {r : Result Answer Fault} {a : Answer} → Led words holding R book h s → Leaves words beyond holding R s c r s' → Carries (state_of words holding s) c r (state_of words holding s') → r ≡ Ok a → Led words holding R book (granted c a ∷ h) s'
led_more {words = words} {holding = holding} {R = R} {h = h} {s = s} {s' = s'} c {a = a} led leaves carries e =
    record {
      first = led.first;
      released = led.released;
      reached = subst (λ (q : Result Answer Fault). Reached first_words (record { call = c; answer = q } ∷ h) (state_of words holding s')) e (carries first_words h led.reached);
      travelled = onward h (granted c a) s.book s'.book led.travelled
          record { holds = led.reached.held; moved = subst (λ (q : Result Answer Fault). MovedBy R s.book (move_of c q) s'.book) e leaves.moved };
    }

-- a call that the rules grant
pub next : {M B : Type 0} {words : M → List ℕ} {beyond : M → List (List ℕ)} {holding : B → Holdings} {R : B → Move → B → Type 0} {book : B} {h : History} {s s' : TheStore M B} (c : Call) {r : Result Answer Fault} {a : Answer} → Led words holding R book h s → Leaves words beyond holding R s c r s' → Carries (state_of words holding s) c r (state_of words holding s') → (Rightly first_words (events h) c r → r ≡ Ok a) → Led words holding R book (granted c a ∷ h) s' × (r ≡ Ok a)
next c {r = r} led leaves carries right =
    let e = right (rightly _ c r led carries) in
    (led_more c led leaves carries e, e)

pub done_refused : (r : Result (Unit {0}) Fault) (f : Fault) → r ≡ Err f → done_of r ≡ Ok Done → ⊥
done_refused r f e d = let refused : done_of (Err f) ≡ Ok Done = subst (λ (q : Result (Unit {0}) Fault). done_of q ≡ Ok Done) e d in cc

pub word_refused : (r : Result ℕ Fault) (f : Fault) (w : ℕ) → r ≡ Err f → word_of r ≡ Ok (Word w) → ⊥
word_refused r f w e d = let refused : word_of (Err f) ≡ Ok (Word w) = subst (λ (q : Result ℕ Fault). word_of q ≡ Ok (Word w)) e d in cc

-- a word read back from a memory, which is the store's own
pub read_back : {M : Type 0} (words : M → List ℕ) (own lent : M) (a w : ℕ) (r : Result ℕ Fault) → r ≡ read_answer (words lent) a → lent ≡ own → length (words own) ≡ 8 → nat_lt a 8 ≡ true → get_or (words own) a 0 ≡ w → r ≡ Ok w
read_back words own lent a w r e is size lt at =
    let below : nat_lt a (length (words own)) ≡ true = ap (nat_lt a) size ∙ lt in
    let here : read_answer (words own) a ≡ Ok w = subst (λ (b : Bool). cond b (Ok (get_or (words own) a 0)) (Err (address_fault a)) ≡ Ok w) (sym below) (ap Ok at) in
    e ∙ ap (λ (m : _). read_answer (words m) a) is ∙ here

-- what a job's function answers
pub answers_are : (r : Result (ℕ × ℕ) Fault) (q : Result ℕ Fault) (p : ℕ × ℕ) (w figure v : ℕ) → r ≡ Ok p → r ≡ Ok (1, figure) → q ≡ Ok w → q ≡ Ok v → ◌≡◌ {A = Result Outcome Fault} (Ok record { answer = p; word = w }) (Ok record { answer = (1, figure); word = v })
answers_are r q p w figure v e e' i i' = cc

-- the turns of the two jobs, as far as they have come
abbrev pub begun : History
begun = granted (Begin 1) Done ∷ []

abbrev pub stored_once : History
stored_once = granted (Store 1 3 15) Done ∷ begun

abbrev pub stored_twice : History
stored_twice = granted (Store 1 3 20) Done ∷ stored_once

abbrev pub loaded : History
loaded = granted (Load 1 0) (Word 7) ∷ begun

abbrev pub loaded_and_stored : History
loaded_and_stored = granted (Store 1 0 11) Done ∷ loaded

pub begin_granted : (r : Result Answer Fault) → Rightly first_words (events []) (Begin 1) r → r ≡ Ok Done
unfolding open_job
begin_granted r e = e

pub store_granted : (r : Result Answer Fault) → Rightly first_words (events begun) (Store 1 3 15) r → r ≡ Ok Done
unfolding open_job stored_addresses latest_store touched first_below
store_granted r e = e

pub again_granted : (r : Result Answer Fault) → Rightly first_words (events stored_once) (Store 1 3 20) r → r ≡ Ok Done
unfolding open_job stored_addresses latest_store touched first_below
again_granted r e = e

pub load_granted : (r : Result Answer Fault) → Rightly first_words (events begun) (Load 1 0) r → r ≡ Ok (Word 7)
unfolding open_job serial_words alone stored_in first_below
load_granted r e = e

pub own_granted : (r : Result Answer Fault) → Rightly first_words (events loaded) (Store 1 0 11) r → r ≡ Ok Done
unfolding open_job stored_addresses latest_store touched first_below
own_granted r e = e

-- a pair of one record and a figure
abbrev pub OneRecord : Result (ℕ × ℕ) Fault → Type 0
OneRecord r = (figure : ℕ) × (r ≡ Ok (1, figure))

pub abort_granted : (r : Result (ℕ × ℕ) Fault) → Rightly first_words (events stored_twice) (Abort 1) (ended_of r) → OneRecord r
unfolding open_job stored_addresses latest_store
abort_granted (Ok p) e = (p.1, ap (λ (n : ℕ). Ok (n, p.1)) e.0)
abort_granted (Err f) e = absurd e

pub commit_granted : (r : Result (ℕ × ℕ) Fault) → Rightly first_words (events loaded_and_stored) (Commit 1) (ended_of r) → OneRecord r
unfolding open_job stored_addresses latest_store
commit_granted (Ok p) e = (p.1, ap (λ (n : ℕ). Ok (n, p.1)) e.0)
commit_granted (Err f) e = absurd e

-- the job of a thread after a job of thread 1 ended: none, whether or not the thread is 1
accessed : Access → Bool → Option Job → Option Job
accessed x b j = cond b (option_map (λ (xs : Job). x ∷ xs) j) j

none_left : (x y : Access) (a : ℕ) (b : Bool) → latest_store (unwrap_or (cond b None (accessed x b (accessed y b (cond b (Some []) None)))) []) a ≡ None
unfolding accessed latest_store
none_left x y a b = elim b as (λ (v : Bool). latest_store (unwrap_or (cond v None (accessed x v (accessed y v (cond v (Some []) None)))) []) a ≡ None) [ true ↦ refl | false ↦ refl ]

pub put_back_word : {M B : Type 0} {words : M → List ℕ} {holding : B → Holdings} {R : B → Move → B → Type 0} {book : B} {figure : ℕ} {s : TheStore M B} → Led words holding R book (abort_turns figure) s → get_or (words s.memory) 3 0 ≡ 10
unfolding open_job serial_words accessed
put_back_word led =
    let below : 3 < length first_words = omega arith in
    led.reached.serial 3 below (λ t l. none_left (stores 3 20) (stores 3 15) 3 (nat_eq 1 t))

pub stored_word : {M B : Type 0} {words : M → List ℕ} {holding : B → Holdings} {R : B → Move → B → Type 0} {book : B} {figure : ℕ} {s : TheStore M B} → Led words holding R book (commit_turns figure) s → get_or (words s.memory) 0 0 ≡ 11
unfolding open_job serial_words alone accessed
stored_word led =
    let below : 0 < length first_words = omega arith in
    led.reached.serial 0 below (λ t l. none_left (stores 0 11) (loads 0) 0 (nat_eq 1 t))
