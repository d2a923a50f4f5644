-- What the store means at one moment, what each call answers then, and what it leaves.
use Rattle.std.specs.Prelude.{◌≡◌, ℕ, ◌/◌, cond, List, [], ◌∷◌, length, is_ok, Ok, Err, Result, slice_index, slice_set}
use Rattle.fault.specs.declared.Fault.{Fault}
use Rattle.book.specs.Holdings.{Holdings}
use Rattle.book.specs.Rules.{load_take, store_take, after_load, after_store, after_release, Released, seat_answer as seat_in_book, drop_answer as drop_in_book}
use Rattle.memory.specs.Words.{read_answer}
use Rattle.threads.specs.Entries.{View, idle, begun, noted_in}
use Rattle.threads.specs.Judgement.{judge_of, room_of, thread_in}
use Rattle.threads.specs.Tables.{entry_at, table_of}
use Rattle.threads.specs.declared.record.Undo.{Undo}
use Rattle.threads.specs.declared.entry.Request.TheVariants.{Begin as Begins, Load as Loads, Store as Stores, Commit as Commits, Abort as Aborts}
use Rattle.store.specs.declared.Answer.{Answer}
use Rattle.store.specs.declared.Answer.TheVariants.{Done, Word, Ended}
use Rattle.store.specs.declared.Store.{Store as TheStore}
use Rattle.store.specs.declared.Call.{Call}
use Rattle.store.specs.declared.Call.TheVariants.{Begin, Load, Store, Commit, Abort, Seat, Drop}

-- the words in place are the memory's, the holdings the book's
pub record State : Type 0 where
  pub words : List ℕ
  pub holds : Holdings
  pub table : List View

-- read off a store by the meanings of its memory and its book
abbrev pub state_of : {M B : Type 0} → (M → List ℕ) → (B → Holdings) → TheStore M B → State
state_of words holding s = record { words = words s.memory; holds = holding s.book; table = table_of s.table }

-- the second answer where the first is granted, otherwise the first refusal
abbrev pub and_then : {A B : Type 0} → Result A Fault → Result B Fault → Result B Fault
and_then (Ok x) next = next
and_then (Err f) next = Err f

abbrev pub block_of : ℕ → ℕ
block_of a = a / 8

-- what comes before the book is asked: thread and state, address, room in the undo log
abbrev pub before_load : State → ℕ → ℕ → Result (Unit {0}) Fault
before_load s t a = and_then (judge_of s.table t Loads) (and_then (read_answer s.words a) (Ok tt))

abbrev pub before_store : State → ℕ → ℕ → Result (Unit {0}) Fault
before_store s t a = and_then (judge_of s.table t Stores) (and_then (read_answer s.words a) (room_of s.table t a))

abbrev pub begin_answer : State → ℕ → Result (Unit {0}) Fault
begin_answer s t = judge_of s.table t Begins

abbrev pub load_answer : State → ℕ → ℕ → Result ℕ Fault
load_answer s t a = and_then (before_load s t a) (and_then (load_take s.holds t (block_of a)) (Ok (slice_index s.words a)))

abbrev pub store_answer : State → ℕ → ℕ → Result (Unit {0}) Fault
store_answer s t a = and_then (before_store s t a) (store_take s.holds t (block_of a))

-- seat and drop belong to no job: the store judges the thread, the book the rest
abbrev pub seat_answer : ℕ → ℕ → Result (Unit {0}) Fault
seat_answer t board = and_then (thread_in t) (seat_in_book t board)

abbrev pub drop_answer : ℕ → ℕ → Result (Unit {0}) Fault
drop_answer board b = drop_in_book board b

-- the answers of all calls in one type
abbrev pub done_of : Result (Unit {0}) Fault → Result Answer Fault
done_of (Ok _) = Ok Done
done_of (Err f) = Err f

abbrev pub word_of : Result ℕ Fault → Result Answer Fault
word_of (Ok w) = Ok (Word w)
word_of (Err f) = Err f

abbrev pub ended_of : Result (ℕ × ℕ) Fault → Result Answer Fault
ended_of (Ok p) = Ok (Ended p.0 p.1)
ended_of (Err f) = Err f

-- the values that an answer shows
abbrev pub values_of : Answer → List ℕ
values_of Done = []
values_of (Word w) = w ∷ []
values_of (Ended n figure) = n ∷ figure ∷ []

-- a granted end answers how many records were dropped and the book's figure, which alone is left free
abbrev pub Ends : State → ℕ → Answer → Type 0
Ends s t Done = ⊥
Ends s t (Word w) = ⊥
Ends s t (Ended n figure) = (n ≡ length (entry_at s.table t).undo) × Released s.holds t (Ok figure)

abbrev pub EndAnswer : State → ℕ → Result (Unit {0}) Fault → Result Answer Fault → Type 0
EndAnswer s t (Ok _) (Ok answer) = Ends s t answer
EndAnswer s t (Ok _) (Err f) = ⊥
EndAnswer s t (Err e) r = r ≡ Err e

-- old words put back, the last record first
unfoldable pub put_back : List ℕ → List Undo → List ℕ
put_back ws [] = ws
put_back ws (u ∷ us) = slice_set (put_back ws us) u.address u.old

abbrev pub begin_state : State → ℕ → State
begin_state s t =
    cond (is_ok (begin_answer s t)) record { words = s.words; holds = s.holds; table = slice_set s.table t begun } s

abbrev pub load_state : State → ℕ → ℕ → State
load_state s t a =
    cond (is_ok (before_load s t a)) record { words = s.words; holds = after_load s.holds t (block_of a); table = s.table } s

abbrev pub store_state : State → ℕ → ℕ → ℕ → State
store_state s t a w =
    cond (is_ok (store_answer s t a))
    record {
      words = slice_set s.words a w;
      holds = after_store s.holds t (block_of a);
      table = slice_set s.table t (noted_in (entry_at s.table t) a (slice_index s.words a));
    }
    s

abbrev pub commit_state : State → ℕ → State
commit_state s t =
    cond (is_ok (judge_of s.table t Commits)) record { words = s.words; holds = after_release s.holds t; table = slice_set s.table t idle } s

abbrev pub abort_state : State → ℕ → State
abort_state s t =
    cond (is_ok (judge_of s.table t Aborts))
    record {
      words = put_back s.words (entry_at s.table t).undo;
      holds = after_release s.holds t;
      table = slice_set s.table t idle;
    }
    s

-- what the store may answer to a call, and its state afterwards
abbrev pub Answered : State → Call → Result Answer Fault → Type 0
Answered s (Begin t) r = r ≡ done_of (begin_answer s t)
Answered s (Load t a) r = r ≡ word_of (load_answer s t a)
Answered s (Store t a w) r = r ≡ done_of (store_answer s t a)
Answered s (Commit t) r = EndAnswer s t (judge_of s.table t Commits) r
Answered s (Abort t) r = EndAnswer s t (judge_of s.table t Aborts) r
Answered s (Seat t board) r = r ≡ done_of (seat_answer t board)
Answered s (Drop board b) r = r ≡ done_of (drop_answer board b)

abbrev pub state_after : State → Call → State
state_after s (Begin t) = begin_state s t
state_after s (Load t a) = load_state s t a
state_after s (Store t a w) = store_state s t a w
state_after s (Commit t) = commit_state s t
state_after s (Abort t) = abort_state s t
state_after s (Seat t board) = s
state_after s (Drop board b) = s
