-- The answer that the rules give to a call, from the starting words and the earlier turns alone.
use Rattle.std.specs.Prelude.{◌≡◌, ℕ, ◌*◌, ◌≤◌, Bool, cond, not, ◌&&◌, ◌||◌, List, [], ◌∷◌, length, is_some, Some, None, Ok, Err, Option, Result, ◌==◌, nat_lt, slice_index}
use Rattle.fault.specs.declared.Fault.{Fault}
use Rattle.fault.specs.declared.Refusal.{Refusal}
use Rattle.fault.specs.declared.Refusal.TheVariants.{ThreadOutOfRange, JobOpen, NoJobOpen, UndoLogFull, LoadConflict, StoreConflict}
use Rattle.book.specs.Holdings.{first_below, count_below}
use Rattle.book.specs.Rules.{by_book}
use Rattle.memory.specs.Words.{address_fault}
use Rattle.threads.specs.Judgement.{refused, allowed, Verdict}
use Rattle.store.specs.States.{and_then, block_of, done_of, word_of, seat_answer, drop_answer}
use Rattle.store.specs.Histories.{History, Event, Access, events, open_job, job_of, alone, serial_words, latest_store, stored_in, touched, stored_addresses}
use Rattle.store.specs.declared.Answer.{Answer}
use Rattle.store.specs.declared.Answer.TheVariants.{Done, Word, Ended}
use Rattle.store.specs.declared.Call.{Call}
use Rattle.store.specs.declared.Call.TheVariants.{Begin, Load, Store, Commit, Abort, Seat, Drop}

abbrev pub on_thread : ℕ → Verdict → Verdict
on_thread t next = cond (nat_lt t 16) next (refused (ThreadOutOfRange t))

-- begin needs a thread without an open job; load, store, commit and abort need one with it
abbrev pub begin_rule : List (Event Access) → ℕ → Verdict
begin_rule es t = on_thread t (cond (is_some (open_job es t)) (refused (JobOpen t)) allowed)

abbrev pub open_rule : List (Event Access) → ℕ → Verdict
open_rule es t = on_thread t (cond (is_some (open_job es t)) allowed (refused (NoJobOpen t)))

abbrev pub address_rule : List ℕ → ℕ → Verdict
address_rule m a = cond (nat_lt a (length m)) allowed (Err (address_fault a))

-- 64 addresses may be stored to; at one of them a job may store again
abbrev pub room_rule : List (Event Access) → ℕ → ℕ → Verdict
room_rule es t a =
    cond (nat_lt (length (stored_addresses (job_of es t))) 64 || is_some (latest_store (job_of es t) a)) allowed (refused (UndoLogFull a))

-- another open job was granted a store in the block, or an access of either kind
abbrev pub stored_by_other : List (Event Access) → ℕ → ℕ → ℕ → Bool
stored_by_other es t b u = not (u == t) && stored_in (job_of es u) b

abbrev pub touched_by_other : List (Event Access) → ℕ → ℕ → ℕ → Bool
touched_by_other es t b u = not (u == t) && touched (job_of es u) b

-- the lowest-numbered such job refuses the call
abbrev pub unless_held : (ℕ → Refusal) → Option ℕ → Verdict
unless_held why (Some u) = Err (by_book (why u))
unless_held why None = allowed

abbrev pub load_conflict_rule : List (Event Access) → ℕ → ℕ → Verdict
load_conflict_rule es t b = unless_held LoadConflict (first_below (stored_by_other es t b) 16)

abbrev pub store_conflict_rule : List (Event Access) → ℕ → ℕ → Verdict
store_conflict_rule es t b = unless_held StoreConflict (first_below (touched_by_other es t b) 16)

abbrev pub load_rule : List ℕ → List (Event Access) → ℕ → ℕ → Result ℕ Fault
load_rule m es t a =
    and_then (open_rule es t)
    (and_then (address_rule m a) (and_then (load_conflict_rule es t (block_of a)) (Ok (slice_index (alone (serial_words m es) (job_of es t)) a))))

abbrev pub store_rule : List ℕ → List (Event Access) → ℕ → ℕ → Verdict
store_rule m es t a =
    and_then (open_rule es t) (and_then (address_rule m a) (and_then (room_rule es t a) (store_conflict_rule es t (block_of a))))

-- the blocks that a job was granted accesses in
abbrev pub blocks_touched : List (Event Access) → ℕ → ℕ
blocks_touched es t = count_below (touched (job_of es t)) 64

-- the pair of a granted end: the addresses stored to, and a figure between the blocks touched and twice that
abbrev pub PairRule : List (Event Access) → ℕ → Answer → Type 0
PairRule es t Done = ⊥
PairRule es t (Word w) = ⊥
PairRule es t (Ended n figure) = (n ≡ length (stored_addresses (job_of es t))) × (blocks_touched es t ≤ figure) × (figure ≤ 2 * blocks_touched es t)

abbrev pub EndRule : List (Event Access) → ℕ → Verdict → Result Answer Fault → Type 0
EndRule es t (Ok _) (Ok answer) = PairRule es t answer
EndRule es t (Ok _) (Err f) = ⊥
EndRule es t (Err e) r = r ≡ Err e

abbrev pub Rightly : List ℕ → List (Event Access) → Call → Result Answer Fault → Type 0
Rightly m es (Begin t) r = r ≡ done_of (begin_rule es t)
Rightly m es (Load t a) r = r ≡ word_of (load_rule m es t a)
Rightly m es (Store t a w) r = r ≡ done_of (store_rule m es t a)
Rightly m es (Commit t) r = EndRule es t (open_rule es t) r
Rightly m es (Abort t) r = EndRule es t (open_rule es t) r
Rightly m es (Seat t board) r = r ≡ done_of (seat_answer t board)
Rightly m es (Drop board b) r = r ≡ done_of (drop_answer board b)

-- every answer of a history is the one that the rules give from the turns before it
unfoldable pub Answers : List ℕ → History → Type 0
Answers m [] = Unit {0}
Answers m (turn ∷ h) = Rightly m (events h) turn.call turn.answer × Answers m h
