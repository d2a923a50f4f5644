-- Every call carries forward what a store that went through a history has.
use Rattle.std.proofs.Common.{◌≡◌, ℕ, List, ◌∷◌, Result, sym, subst}
use Rattle.fault.specs.declared.Fault.{Fault}
use Rattle.book.specs.Holdings.{Sound}
use Rattle.memory.specs.Words.{Whole}
use Rattle.store.specs.States.{State, Answered, state_after}
use Rattle.store.specs.Histories.{History}
use Rattle.store.specs.Reached.{Reached, Carries}
use Rattle.store.specs.declared.Answer.{Answer}
use Rattle.store.specs.declared.Call.{Call}
use Rattle.store.specs.declared.Call.TheVariants.{Begin, Load, Store, Commit, Abort, Seat, Drop}
use Rattle.store.proofs.StepAbort.{step_abort}
use Rattle.store.proofs.StepBegin.{step_begin}
use Rattle.store.proofs.StepCommit.{step_commit}
use Rattle.store.proofs.StepLoad.{step_load}
use Rattle.store.proofs.StepNothing.{step_by_nothing, seat_does_nothing, drop_does_nothing}
use Rattle.store.proofs.StepStore.{step_store}

module _ (m : List ℕ) (h : History) (s s' : State) where
  step : (c : Call) (r : Result Answer Fault) → Sound s.holds → Whole s.words → Answered s c r → s' ≡ state_after s c → Reached m h s → Reached m (record { call = c; answer = r } ∷ h) s'
  step (Begin t) r sound whole answered after reached = step_begin m h s s' t r answered after reached
  step (Load t a) r sound whole answered after reached = step_load m h s s' t a r sound whole answered after reached
  step (Store t a w) r sound whole answered after reached = step_store m h s s' t a w r sound whole answered after reached
  step (Commit t) r sound whole answered after reached = step_commit m h s s' t r sound whole answered after reached
  step (Abort t) r sound whole answered after reached = step_abort m h s s' t r sound whole answered after reached
  step (Seat t board) r sound whole answered after reached =
      subst (Reached m (record { call = Seat t board; answer = r } ∷ h)) (sym after) (step_by_nothing m h s (Seat t board) r (seat_does_nothing t board r) answered reached)
  step (Drop board b) r sound whole answered after reached =
      subst (Reached m (record { call = Drop board b; answer = r } ∷ h)) (sym after) (step_by_nothing m h s (Drop board b) r (drop_does_nothing board b r) answered reached)

-- the same, as the clauses of the calls say it
pub carries : {s s' : State} {c : Call} {r : Result Answer Fault} → Sound s.holds → Whole s.words → Answered s c r → s' ≡ state_after s c → Carries s c r s'
carries sound whole answered after m h reached = step m h _ _ _ _ sound whole answered after reached
