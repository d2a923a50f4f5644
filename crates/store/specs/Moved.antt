-- What a call leaves, and which one move the book made for it, if any.
use Rattle.std.specs.Prelude.{◌≡◌, ℕ, ◌+◌, Bool, true, false, cond, List, Some, None, Ok, Err, Option, Result}
use Rattle.fault.specs.declared.Fault.{Fault}
use Rattle.fault.specs.declared.Layer.{Layer}
use Rattle.fault.specs.declared.Layer.TheVariants.{Text, Store as InStore, Memory, Book, Marks}
use Rattle.book.specs.Holdings.{Holdings}
use Rattle.book.specs.Moves.{Move, loaded, stored, released, seated, dropped}
use Rattle.store.specs.States.{block_of, state_of, state_after}
use Rattle.store.specs.declared.Answer.{Answer}
use Rattle.store.specs.declared.Answer.TheVariants.{Done, Word, Ended}
use Rattle.store.specs.declared.Call.{Call}
use Rattle.store.specs.declared.Call.TheVariants.{Begin, Load, Store, Commit, Abort, Seat, Drop}
use Rattle.store.specs.declared.Store.{Store as TheStore}

abbrev pub is_book : Layer → Bool
is_book Text = false
is_book InStore = false
is_book Memory = false
is_book Book = true
is_book Marks = false

-- the book was asked where the call was granted, and where the book itself refused it
abbrev pub move_for : (Result (Unit {0}) Fault → Move) → Result (Unit {0}) Fault → Option Move
move_for asked (Ok x) = Some (asked (Ok x))
move_for asked (Err f) = cond (is_book f.layer) (Some (asked (Err f))) None

abbrev pub granted : {A : Type 0} → Result A Fault → Result (Unit {0}) Fault
granted (Ok x) = Ok tt
granted (Err f) = Err f

-- a granted end releases the thread's tokens, with the figure that it answers
abbrev pub end_move : ℕ → Result Answer Fault → Option Move
end_move t (Ok Done) = None
end_move t (Ok (Word w)) = None
end_move t (Ok (Ended n figure)) = Some (released t (Ok figure))
end_move t (Err f) = None

abbrev pub move_of : Call → Result Answer Fault → Option Move
move_of (Begin t) r = None
move_of (Load t a) r = move_for (loaded t (block_of a)) (granted r)
move_of (Store t a w) r = move_for (stored t (block_of a)) (granted r)
move_of (Commit t) r = end_move t r
move_of (Abort t) r = end_move t r
move_of (Seat t board) r = move_for (seated t board) (granted r)
move_of (Drop board b) r = move_for (dropped board b) (granted r)

-- R: what a book promises of its moves
abbrev pub MovedBy : {B : Type 0} → (B → Move → B → Type 0) → B → Option Move → B → Type 0
MovedBy R k (Some τ) l = R k τ l
MovedBy R k None l = l ≡ k

-- whether a call writes to the memory: a store and an abort do, where they are granted
abbrev pub writes : Call → Result Answer Fault → Bool
writes (Begin t) r = false
writes (Load t a) r = false
writes (Store t a w) (Ok x) = true
writes (Store t a w) (Err f) = false
writes (Commit t) r = false
writes (Abort t) (Ok x) = true
writes (Abort t) (Err f) = false
writes (Seat t board) r = false
writes (Drop board b) r = false

abbrev pub KeptUnless : {M : Type 0} → Bool → M → M → Type 0
KeptUnless true m n = Unit {0}
KeptUnless false m n = n ≡ m

-- what a call with its answer leaves: the state after it, what lies beyond the memory's words as it was, the whole
-- memory as it was unless the call writes, and the book after its one move
pub record Leaves {M B : Type 0} (words : M → List ℕ) (beyond : M → List (List ℕ)) (holding : B → Holdings) (R : B → Move → B → Type 0) (before : TheStore M B) (c : Call) (r : Result Answer Fault) (after : TheStore M B) : Type 0 where
  pub state : state_of words holding after ≡ state_after (state_of words holding before) c
  pub untouched : beyond after.memory ≡ beyond before.memory
  pub kept : KeptUnless (writes c r) before.memory after.memory
  pub moved : MovedBy R before.book (move_of c r) after.book

-- the releases that make a store fresh: of each thread below n in turn, the newest first
pub data Releases {B : Type 0} (R : B → Move → B → Type 0) (first : B) : ℕ → B → Type 0 where
  none : Releases R first 0 first
  more : (n : ℕ) (k l : B) (r : Result ℕ Fault) → Releases R first n k → R k (released n r) l → Releases R first (n + 1) l
