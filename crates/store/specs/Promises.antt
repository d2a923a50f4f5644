-- What is promised after any list of calls on a fresh store.
use Rattle.std.specs.Prelude.{◌≡◌, ℕ, ◌<◌, Bool, true, cond, List, [], ◌∷◌, map, reverse, length, is_some, is_ok, Some, None, Err, Result, slice_index}
use Rattle.fault.specs.declared.Fault.{Fault}
use Rattle.fault.specs.declared.Refusal.{Refusal}
use Rattle.fault.specs.declared.Refusal.TheVariants.{LoadConflict, StoreConflict}
use Rattle.book.specs.Holdings.{Holdings, Lowest, first_below, count_below}
use Rattle.book.specs.Picture.{Picture, shown}
use Rattle.book.specs.Rules.{by_book}
use Rattle.book.specs.Moves.{Move}
use Rattle.threads.specs.Judgement.{allowed}
use Rattle.store.specs.Moved.{Releases, MovedBy, move_of}
use Rattle.store.specs.declared.Answer.{Answer}
use Rattle.store.specs.declared.Call.{Call}
use Rattle.store.specs.declared.Call.TheVariants.{Begin, Load, Store, Commit, Abort, Seat, Drop}
use Rattle.store.specs.declared.Store.{Store as TheStore}
use Rattle.store.specs.declared.Turn.{Turn}
use Rattle.store.specs.States.{State, state_of, block_of}
use Rattle.store.specs.Histories.{History, Told, Event, Access, events, sightings, job_of, serial_words, latest_store, stored_in, touched, Agrees, EndedLoads}
use Rattle.store.specs.Rules.{Answers, open_rule, address_rule, room_rule, stored_by_other, touched_by_other}
use Rattle.store.specs.Reached.{Reached, holding_of}

-- no open job's latest store at the address gave a word other than the serial one
abbrev pub NoOtherWord : List ℕ → History → ℕ → Type 0
NoOtherWord m h a = (t w : ℕ) → latest_store (job_of (events h) t) a ≡ Some w → w ≡ slice_index (serial_words m (events h)) a

-- a call is refused by the lowest-numbered thread that passes the test, exactly when there is one
pub record ExactlyWhen (why : ℕ → Refusal) (test : ℕ → Bool) (r : Result Answer Fault) : Type 0 where
  pub only_when : (u : ℕ) → r ≡ Err (by_book (why u)) → Lowest test 16 (Some u)
  pub always : (u : ℕ) → Lowest test 16 (Some u) → r ≡ Err (by_book (why u))
  pub granted : Lowest test 16 None → is_ok r ≡ true

-- past the earlier checks, a load meets a conflict exactly when another open job was granted a store in its block,
-- and a store exactly when another was granted an access there
abbrev pub Conflicts : List ℕ → List (Event Access) → Call → Result Answer Fault → Type 0
Conflicts m es (Begin t) r = Unit {0}
Conflicts m es (Load t a) r = open_rule es t ≡ allowed → address_rule m a ≡ allowed → ExactlyWhen LoadConflict (stored_by_other es t (block_of a)) r
Conflicts m es (Store t a w) r = open_rule es t ≡ allowed → address_rule m a ≡ allowed → room_rule es t a ≡ allowed → ExactlyWhen StoreConflict (touched_by_other es t (block_of a)) r
Conflicts m es (Commit t) r = Unit {0}
Conflicts m es (Abort t) r = Unit {0}
Conflicts m es (Seat t board) r = Unit {0}
Conflicts m es (Drop board b) r = Unit {0}

unfoldable pub AllConflicts : List ℕ → History → Type 0
AllConflicts m [] = Unit {0}
AllConflicts m (turn ∷ h) = Conflicts m (events h) turn.call turn.answer × AllConflicts m h

pub record Promised (m : List ℕ) (h : History) (s : State) : Type 0 where
  -- each answer is the one that the rules give from the earlier turns
  pub answers : Answers m h
  -- conflicts come exactly when another open job holds the block, and name the lowest-numbered
  pub conflicts : AllConflicts m h
  -- words in place are the serial words exactly where no open job stored another word
  pub size : length s.words ≡ length m
  pub only_then : (a : ℕ) → a < length m → slice_index s.words a ≡ slice_index (serial_words m (events h)) a → NoOtherWord m h a
  pub then : (a : ℕ) → a < length m → NoOtherWord m h a → slice_index s.words a ≡ slice_index (serial_words m (events h)) a
  pub in_place : (a t w : ℕ) → a < length m → latest_store (job_of (events h) t) a ≡ Some w → slice_index s.words a ≡ w
  -- each load of each job answered what the job gets when it is run alone
  pub ended_loads : EndedLoads m h
  pub open_loads : (t : ℕ) → Agrees (serial_words m (events h)) (job_of (sightings h) t)
  -- the book's holdings are what the open jobs were granted
  pub held : (t b : ℕ) → t < 16 → s.holds t b ≡ holding_of (job_of (events h) t) b
  -- the thread table is at the history's end too, so that the promises go on with whatever call comes next
  pub reached : Reached m h s

-- the book went through the history by its own moves, one for each turn that asked it, and held at each turn what
-- the open jobs had been granted
pub record LedTo {B : Type 0} (holding : B → Holdings) (R : B → Move → B → Type 0) (h : History) (turn : Told) (k l : B) : Type 0 where
  pub holds : (t b : ℕ) → t < 16 → holding k t b ≡ holding_of (job_of (events h) t) b
  pub moved : MovedBy R k (move_of turn.call turn.answer) l

pub data Travelled {B : Type 0} (holding : B → Holdings) (R : B → Move → B → Type 0) (first : B) : History → B → Type 0 where
  start : Travelled holding R first [] first
  onward : (h : History) (turn : Told) (k l : B) → Travelled holding R first h k → LedTo holding R h turn k l → Travelled holding R first (turn ∷ h) l

-- a turn of the list with its answer set
abbrev pub slot_of : Told → Turn
slot_of turn = record { call = turn.call; answer = Some turn.answer }

-- what a replay promises of the memory and the book that it was given, the turns before and after, and the store
pub record Replayed {M B : Type 0} (words : M → List ℕ) (beyond : M → List (List ℕ)) (holding : B → Holdings) (R : B → Move → B → Type 0) (memory : M) (book : B) (before after : List Turn) (store : TheStore M B) : Type 0 where
  -- every call was made once, in order, and every answer is set
  pub history : History
  pub answered : after ≡ map slot_of (reverse history)
  pub calls : map (λ (t : Turn). t.call) after ≡ map (λ (t : Turn). t.call) before
  -- and of exactly these calls and answers
  pub promised : Promised (words memory) history (state_of words holding store)
  pub untouched : beyond store.memory ≡ beyond memory
  -- the book's own promises, from the sixteen releases on
  pub fresh : B
  pub released : Releases R book 16 fresh
  pub travelled : Travelled holding R fresh history store.book

-- the tokens that a block shows: 64 when an open job was granted a store in it, otherwise one for each open job that was
-- granted a load there
abbrev pub tokens_rule : List (Event Access) → ℕ → ℕ
tokens_rule es b = cond (is_some (first_below (λ t. stored_in (job_of es t) b) 16)) 64 (count_below (λ t. touched (job_of es t) b) 16)

abbrev pub TokensShown : Picture → History → Type 0
TokensShown p h = (b : ℕ) → b < 64 → shown p b ≡ tokens_rule (events h) b

-- the same over a book with marks, whose picture shows the tokens
pub record ReplayedMarked {M B : Type 0} (words : M → List ℕ) (beyond : M → List (List ℕ)) (holding : B → Holdings) (R : B → Move → B → Type 0) (picture : B → Picture) (memory : M) (book : B) (before after : List Turn) (store : TheStore M B) : Type 0 where
  pub replayed : Replayed words beyond holding R memory book before after store
  pub tokens : TokensShown (picture store.book) replayed.history
