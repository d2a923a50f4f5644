-- One line as a turn of the store, and the room that its row needs.
use Rattle.std.proofs.Common.{◌≡◌, ℕ, zero, suc, ◌+◌, ◌≤◌, Bool, true, false, cond, ltb, List, [], ◌∷◌, length, Ok, Err, Result, sym, ap, ◌∙◌, subst, arith}
use Rattle.fault.specs.declared.Fault.{Fault}
use Rattle.book.specs.Holdings.{Holdings, count_below}
use Rattle.book.specs.Moves.{Move}
use Rattle.script.specs.Commands.{parse_of}
use Rattle.script.specs.Rows.{Within}
use Rattle.threads.specs.Tables.{entry_at}
use Rattle.store.specs.States.{State, Answered, EndAnswer, done_of, word_of}
use Rattle.store.specs.Moved.{MovedBy, move_of}
use Rattle.store.specs.Reached.{Reached, Carries}
use Rattle.store.specs.Promises.{Travelled, onward}
use Rattle.store.specs.declared.Answer.{Answer}
use Rattle.store.specs.declared.Answer.TheVariants.{Done, Word, Ended}
use Rattle.store.specs.declared.Call.{Call}
use Rattle.store.specs.declared.Call.TheVariants.{Begin, Load, Store, Commit, Abort, Seat, Drop}
use Rattle.console.specs.Runs.{Entry, turn_of, turns_from, CarriesAll, TravelsAll}

count_le : (p : ℕ → Bool) (n : ℕ) → count_below p n ≤ n
unfolding count_below
count_le p zero = omega arith
count_le p (suc n) = let below = count_le p n in one (p n) below
  where
    one : (b : Bool) → count_below p n ≤ n → count_below p n + cond b 1 0 ≤ suc n
    one true l = omega arith
    one false l = omega arith

within_done : (x : Result (Unit {0}) Fault) → Within (done_of x)
within_done (Ok x) = tt
within_done (Err f) = tt

within_word : (x : Result ℕ Fault) → Within (word_of x)
within_word (Ok x) = tt
within_word (Err f) = tt

within_end : (s : State) (t : ℕ) → length (entry_at s.table t).undo ≤ 64 → (j : Result (Unit {0}) Fault) (r : Result Answer Fault) → EndAnswer s t j r → Within r
within_end s t fits (Ok x) (Ok Done) e = tt
within_end s t fits (Ok x) (Ok (Word w)) e = tt
within_end s t fits (Ok x) (Ok (Ended n figure)) e = (omega (arith, e.0), omega (arith, e.1.2, count_le (λ b. ltb 0 (s.holds t b)) 64))
within_end s t fits (Ok x) (Err f) e = tt
within_end s t fits (Err f) r e = subst Within (sym e) tt

pub within_answered : (s : State) → ((t : ℕ) → length (entry_at s.table t).undo ≤ 64) → (c : Call) (r : Result Answer Fault) → Answered s c r → Within r
within_answered s fits (Begin t) r e = subst Within (sym e) (within_done _)
within_answered s fits (Load t a) r e = subst Within (sym e) (within_word _)
within_answered s fits (Store t a w) r e = subst Within (sym e) (within_done _)
within_answered s fits (Commit t) r e = within_end s t (fits t) _ r e
within_answered s fits (Abort t) r e = within_end s t (fits t) _ r e
within_answered s fits (Seat t board) r e = subst Within (sym e) (within_done _)
within_answered s fits (Drop board b) r e = subst Within (sym e) (within_done _)

-- n is of no account here
module _ (n : ℕ) (line : List ℕ) (r : Result Answer Fault) where
  entry : Entry
  entry = record { number = n; line = line; outcome = r }

  module _ (c : Call) (parsed : Ok c ≡ parse_of line) where
    pub carries_call : (s s' : State) → Carries s c r s' → CarriesAll s (record { number = n; line = line; outcome = r } ∷ []) s'
    unfolding turns_from
    carries_call s s' carries m h reached = subst (λ p. Reached m (turn_of p r h) s') parsed (carries m h reached)

    pub travels_call : {B : Type 0} (holding : B → Holdings) (R : B → Move → B → Type 0) (s : State) (k l : B) → s.holds ≡ holding k → MovedBy R k (move_of c r) l → TravelsAll holding R s (record { number = n; line = line; outcome = r } ∷ []) k l
    unfolding turns_from
    travels_call holding R s k l same moved m h first reached far =
        subst (λ p. Travelled holding R first (turn_of p r h) l) parsed
        (onward h _ k l far record { holds = λ t b lt. sym (ap (λ (H : Holdings). H t b) same) ∙ reached.held t b lt; moved = moved })

  module _ (f : Fault) (parsed : Err f ≡ parse_of line) where
    pub carries_refused : (s : State) → CarriesAll s (record { number = n; line = line; outcome = r } ∷ []) s
    unfolding turns_from
    carries_refused s m h reached = subst (λ p. Reached m (turn_of p r h) s) parsed reached

    pub travels_refused : {B : Type 0} (holding : B → Holdings) (R : B → Move → B → Type 0) (s : State) (k : B) → TravelsAll holding R s (record { number = n; line = line; outcome = r } ∷ []) k k
    unfolding turns_from
    travels_refused holding R s k m h first reached far = subst (λ p. Travelled holding R first (turn_of p r h) k) parsed far
