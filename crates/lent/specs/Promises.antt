-- What a run and a replay promise of what the caller lends.
use Rattle.std.specs.Prelude.{◌≡◌, ℕ, ◌*◌, List, ◌++◌, map, length, take, drop, replicate, None}
use Rattle.arrayvec.specs.ArrayVec.{ArrayVec}
use Rattle.book.specs.Holdings.{Holdings}
use Rattle.book.specs.Moves.{Move}
use Rattle.book.specs.Picture.{Picture}
use Rattle.console.specs.Runs.{RanFresh}
use Rattle.console.specs.declared.Ran.{Ran}
use Rattle.memory.specs.Buffers.{plain_words, plain_beyond, image_words, image_beyond}
use Rattle.memory.specs.declared.buffer.Buffer.{Buffer}
use Rattle.store.specs.Promises.{Replayed, ReplayedMarked}
use Rattle.store.specs.declared.Call.{Call}
use Rattle.store.specs.declared.Store.{Store}
use Rattle.store.specs.declared.Turn.{Turn}
use Rattle.lent.specs.Numbers.{answers_of, groups, calls_of}

-- a run on a fresh store over 512 zero words
pub record RanOnZeros {B : Type 0} (holding : B → Holdings) (R : B → Move → B → Type 0) (picture : B → Picture) (book : B) (script report report' : List ℕ) (r : Ran) : Type 0 where
  pub memory : Buffer (ArrayVec ℕ)
  pub zeros : memory.buffer.items ≡ replicate 512 0
  pub store : Store (Buffer (ArrayVec ℕ)) B
  pub ran : RanFresh (λ (m : Buffer (ArrayVec ℕ)). plain_words m.buffer.items) (λ (m : Buffer (ArrayVec ℕ)). plain_beyond m.buffer.items) holding R picture memory book script report report' store r

-- a call that is not answered yet
abbrev pub unanswered : Call → Turn
unanswered c = record { call = c; answer = None }

-- calls made on a fresh store over a table of bytes, of which the first 64 blocks of 64 are lent to a memory;
-- `Kept` says of that memory, the calls, the calls with their answers and the store what a replay promises
pub record Made {B : Type 0} (Kept : Buffer (ArrayVec ℕ) → List Turn → List Turn → Store (Buffer (ArrayVec ℕ)) B → Type 0) (table calls answers table' answers' : List ℕ) (made : ℕ) : Type 0 where
  pub memory : Buffer (ArrayVec ℕ)
  pub store : Store (Buffer (ArrayVec ℕ)) B
  pub turns : List Turn
  pub lent : memory.buffer.items ≡ take 4096 table
  pub kept : Kept memory (map unanswered (calls_of (groups calls answers))) turns store
  pub given_back : table' ≡ store.memory.buffer.items ++ drop 4096 table
  -- each call's answer, and behind them what was there
  pub counted : made ≡ length turns
  pub answered : answers' ≡ answers_of turns ++ drop (4 * made) answers

abbrev pub MadeReplayed : {B : Type 0} → (B → Holdings) → (B → Move → B → Type 0) → B → List ℕ → List ℕ → List ℕ → List ℕ → List ℕ → ℕ → Type 0
MadeReplayed holding R book = Made (λ memory before after store. Replayed (λ (m : Buffer (ArrayVec ℕ)). image_words m.buffer.items) (λ (m : Buffer (ArrayVec ℕ)). image_beyond m.buffer.items) holding R memory book before after store)

-- the same over a book with marks
abbrev pub MadeMarked : {B : Type 0} → (B → Holdings) → (B → Move → B → Type 0) → (B → Picture) → B → List ℕ → List ℕ → List ℕ → List ℕ → List ℕ → ℕ → Type 0
MadeMarked holding R picture book = Made (λ memory before after store. ReplayedMarked (λ (m : Buffer (ArrayVec ℕ)). image_words m.buffer.items) (λ (m : Buffer (ArrayVec ℕ)). image_beyond m.buffer.items) holding R picture memory book before after store)
