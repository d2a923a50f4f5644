-- Two jobs, each alone on a fresh store over the words 7 to 14: their calls, each with its answer, the
-- newest first, and the word that the job stored to, afterwards.
use Rattle.std.specs.Prelude.{◌≡◌, ℕ, List, [], ◌∷◌, Ok, Result, slice_index}
use Rattle.arrayvec.specs.ArrayVec.{ArrayVec}
use Rattle.fault.specs.declared.Fault.{Fault}
use Rattle.memory.specs.Buffers.{plain_words}
use Rattle.memory.specs.declared.buffer.Buffer.{Buffer}
use Rattle.book.specs.Holdings.{Holdings}
use Rattle.book.specs.Moves.{Move}
use Rattle.store.specs.Histories.{History, Told}
use Rattle.store.specs.Moved.{Releases}
use Rattle.store.specs.Promises.{Travelled}
use Rattle.store.specs.Reached.{Reached}
use Rattle.store.specs.States.{state_of}
use Rattle.store.specs.declared.Answer.{Answer}
use Rattle.store.specs.declared.Answer.TheVariants.{Done, Word, Ended as EndedBy}
use Rattle.store.specs.declared.Call.{Call}
use Rattle.store.specs.declared.Call.TheVariants.{Begin, Load, Store, Commit, Abort}
use Rattle.store.specs.declared.Store.{Store as TheStore}
use Rattle.examples.specs.declared.jobs.Ended.{Ended}

-- the words of a plain memory
abbrev pub plain : Buffer (ArrayVec ℕ) → List ℕ
plain memory = plain_words memory.buffer.items

abbrev pub first_words : List ℕ
first_words = 7 ∷ 8 ∷ 9 ∷ 10 ∷ 11 ∷ 12 ∷ 13 ∷ 14 ∷ []

abbrev pub granted : Call → Answer → Told
granted c a = record { call = c; answer = Ok a }

-- a store that these turns led to, from a fresh one over the words 7 to 14: every answer is the one that the rules
-- give, words, holdings and thread table are what they leave, and the book went by its own moves
pub record Led {M B : Type 0} (words : M → List ℕ) (holding : B → Holdings) (R : B → Move → B → Type 0) (book : B) (turns : History) (store : TheStore M B) : Type 0 where
  pub first : B
  pub released : Releases R book 16 first
  pub reached : Reached first_words turns (state_of words holding store)
  pub travelled : Travelled holding R first turns store.book

abbrev pub abort_turns : ℕ → History
abort_turns figure =
    granted (Abort 1) (EndedBy 1 figure) ∷ granted (Store 1 3 20) Done ∷ granted (Store 1 3 15) Done ∷ granted (Begin 1) Done ∷ []

-- thread 1 stores 15 to word 3, then 20, and aborts: one record, and the word is 10 again
pub record Aborted {M B : Type 0} (words : M → List ℕ) (holding : B → Holdings) (R : B → Move → B → Type 0) (book : B) (figure : ℕ) (r : Result Ended Fault) : Type 0 where
  pub store : TheStore M B
  pub led : Led words holding R book (abort_turns figure) store
  pub before : slice_index first_words 3 ≡ 10
  pub after : slice_index (words store.memory) 3 ≡ 10
  pub answers : r ≡ Ok record { answer = (1, figure); word = 10 }

abbrev pub commit_turns : ℕ → History
commit_turns figure =
    granted (Commit 1) (EndedBy 1 figure) ∷ granted (Store 1 0 11) Done ∷ granted (Load 1 0) (Word 7) ∷ granted (Begin 1) Done ∷ []

-- thread 1 loads word 0, stores 11 to it, and commits: one record, and the word is 11
pub record Committed {M B : Type 0} (words : M → List ℕ) (holding : B → Holdings) (R : B → Move → B → Type 0) (book : B) (figure : ℕ) (r : Result Ended Fault) : Type 0 where
  pub store : TheStore M B
  pub led : Led words holding R book (commit_turns figure) store
  pub after : slice_index (words store.memory) 0 ≡ 11
  pub answers : r ≡ Ok record { answer = (1, figure); word = 11 }
