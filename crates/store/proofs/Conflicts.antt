-- The answers that the rules give meet a conflict exactly when another open job holds the block.
use Rattle.std.proofs.Common.{◌≡◌, ℕ, Bool, true, false, List, [], ◌∷◌, get_or, is_ok, Some, None, Ok, Err, Option, Result, sym, refl, ap, ◌∙◌, subst, arith}
use Rattle.fault.specs.Numbers.{place_of}
use Rattle.fault.specs.declared.Fault.{Fault}
use Rattle.fault.specs.declared.Refusal.{Refusal}
use Rattle.fault.specs.declared.Refusal.TheVariants.{LoadConflict, StoreConflict}
use Rattle.book.specs.Holdings.{first_below, Lowest}
use Rattle.book.specs.Rules.{by_book}
use Rattle.book.proofs.Below.{lowest, lowest-only}
use Rattle.threads.specs.Judgement.{Verdict}
use Rattle.store.specs.States.{and_then, block_of, done_of, word_of}
use Rattle.store.specs.Histories.{History, Event, Access, events, job_of, alone, serial_words}
use Rattle.store.specs.Rules.{Answers, Rightly, address_rule, room_rule, stored_by_other, touched_by_other, unless_held}
use Rattle.store.specs.Promises.{ExactlyWhen, Conflicts, AllConflicts}
use Rattle.store.specs.declared.Answer.{Answer}
use Rattle.store.specs.declared.Answer.TheVariants.{Done, Word}
use Rattle.store.specs.declared.Call.{Call}
use Rattle.store.specs.declared.Call.TheVariants.{Begin, Load, Store, Commit, Abort, Seat, Drop}

abbrev place_in : Result Answer Fault → ℕ
place_in (Ok x) = 0
place_in (Err f) = place_of f.refusal

-- the answer of a call once it depends on the threads in its way alone
abbrev pub decided : (ℕ → Refusal) → Answer → Option ℕ → Result Answer Fault
decided why x (Some u) = Err (by_book (why u))
decided why x None = Ok x

module _ (why : ℕ → Refusal) (told : (u : ℕ) → place_of (why u) ≡ u) (x : Answer) (test : ℕ → Bool) where
  only : (o : Option ℕ) (u : ℕ) → Lowest test 16 o → decided why x o ≡ Err (by_book (why u)) → Lowest test 16 (Some u)
  only (Some v) u low e = subst (λ k. Lowest test 16 (Some k)) (sym (told v) ∙ ap place_in e ∙ told u) low
  only None u low e = let z : ◌≡◌ {A = Bool} true false = ap is_ok e in let n : ◌≡◌ {A = ℕ} 0 1 = cc in absurd (let w : ⊥ = omega arith in w)

  pub exactly_when : (r : Result Answer Fault) → r ≡ decided why x (first_below test 16) → ExactlyWhen why test r
  exactly_when r e =
      record {
        only_when = λ u f. only (first_below test 16) u (lowest test 16) (sym e ∙ f);
        always = λ u low. e ∙ ap (decided why x) (lowest-only test 16 (Some u) low);
        granted = λ low. ap is_ok (e ∙ ap (decided why x) (lowest-only test 16 None low));
      }

load_decided : (w : ℕ) (o : Option ℕ) → word_of (and_then (unless_held LoadConflict o) (Ok w)) ≡ decided LoadConflict (Word w) o
load_decided w (Some u) = refl
load_decided w None = refl

store_decided : (o : Option ℕ) → done_of (unless_held StoreConflict o) ≡ decided StoreConflict Done o
store_decided (Some u) = refl
store_decided None = refl

conflicts_at : (m : List ℕ) (es : List (Event Access)) (c : Call) (r : Result Answer Fault) → Rightly m es c r → Conflicts m es c r
conflicts_at m es (Begin t) r right = tt
conflicts_at m es (Load t a) r right =
    λ opened inside.
    let w = get_or (alone (serial_words m es) (job_of es t)) a 0 in
    let rest = and_then (unless_held LoadConflict (first_below (stored_by_other es t (block_of a)) 16)) (Ok w) in
    exactly_when LoadConflict (λ u. refl) (Word w) (stored_by_other es t (block_of a)) r
    (right
    ∙ ap (λ (v : Verdict). word_of (and_then v (and_then (address_rule m a) rest))) opened
    ∙ ap (λ (v : Verdict). word_of (and_then v rest)) inside
    ∙ load_decided w (first_below (stored_by_other es t (block_of a)) 16))
conflicts_at m es (Store t a w) r right =
    λ opened inside room.
    let rest = unless_held StoreConflict (first_below (touched_by_other es t (block_of a)) 16) in
    exactly_when StoreConflict (λ u. refl) Done (touched_by_other es t (block_of a)) r
    (right
    ∙ ap (λ (v : Verdict). done_of (and_then v (and_then (address_rule m a) (and_then (room_rule es t a) rest)))) opened
    ∙ ap (λ (v : Verdict). done_of (and_then v (and_then (room_rule es t a) rest))) inside
    ∙ ap (λ (v : Verdict). done_of (and_then v rest)) room
    ∙ store_decided (first_below (touched_by_other es t (block_of a)) 16))
conflicts_at m es (Commit t) r right = tt
conflicts_at m es (Abort t) r right = tt
conflicts_at m es (Seat t board) r right = tt
conflicts_at m es (Drop board b) r right = tt

pub all_conflicts : (m : List ℕ) (h : History) → Answers m h → AllConflicts m h
unfolding Answers AllConflicts
all_conflicts m [] a = tt
all_conflicts m (turn ∷ h) a = (conflicts_at m (events h) turn.call turn.answer a.0, all_conflicts m h a.1)
