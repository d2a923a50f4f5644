-- What a book answers, and its holdings afterwards.
use Rattle.std.specs.Prelude.{◌≡◌, ℕ, ◌*◌, ◌<◌, ◌≤◌, cond, is_ok, Some, None, Ok, Err, Option, Result, nat_le, nat_lt}
use Rattle.fault.specs.declared.Fault.{Fault}
use Rattle.fault.specs.declared.Layer.TheVariants.{Book}
use Rattle.fault.specs.declared.Refusal.{Refusal}
use Rattle.fault.specs.declared.Refusal.TheVariants.{ThreadOutOfRange, LoadConflict, StoreConflict, BoardOutOfRange, BlockOutOfRange}
use Rattle.book.specs.declared.Take.{Take}
use Rattle.book.specs.declared.Take.TheVariants.{Load, Store}
use Rattle.book.specs.Holdings.{Holdings, put, cleared, blocks_held, wanted, lowest_in_the_way}

abbrev pub by_book : Refusal → Fault
by_book r = record { layer = Book; refusal = r }

abbrev pub granted : Result (Unit {0}) Fault
granted = Ok tt

-- the next answer where n is below the limit, and otherwise the refusal
abbrev pub within : {A : Type 0} → ℕ → ℕ → Refusal → Result A Fault → Result A Fault
within n limit r next = cond (nat_lt n limit) next (Err (by_book r))

abbrev pub on_thread : {A : Type 0} → ℕ → Result A Fault → Result A Fault
on_thread t next = within t 16 (ThreadOutOfRange t) next

abbrev pub on_board : {A : Type 0} → ℕ → Result A Fault → Result A Fault
on_board n next = within n 4 (BoardOutOfRange n) next

abbrev pub on_block : {A : Type 0} → ℕ → Result A Fault → Result A Fault
on_block b next = within b 64 (BlockOutOfRange b) next

-- the refusal for a thread in the way
abbrev pub conflict : Take → ℕ → Refusal
conflict Load u = LoadConflict u
conflict Store u = StoreConflict u

abbrev pub unless_barred : Take → Option ℕ → Result (Unit {0}) Fault
unless_barred k (Some u) = Err (by_book (conflict k u))
unless_barred k None = granted

-- a thread whose own holding suffices is never refused
abbrev pub take_answer : Take → Holdings → ℕ → ℕ → Result (Unit {0}) Fault
take_answer k H t b =
    on_thread t (on_block b (cond (nat_le (wanted k) (H t b)) granted (unless_barred k (lowest_in_the_way k H t b))))

-- a granted take alters a holding that does not suffice, and no other
abbrev pub after_take : Take → Holdings → ℕ → ℕ → Holdings
after_take k H t b = cond (is_ok (take_answer k H t b)) (cond (nat_le (wanted k) (H t b)) H (put H t b (wanted k))) H

abbrev pub load_take : Holdings → ℕ → ℕ → Result (Unit {0}) Fault
load_take = take_answer Load

abbrev pub after_load : Holdings → ℕ → ℕ → Holdings
after_load = after_take Load

abbrev pub store_take : Holdings → ℕ → ℕ → Result (Unit {0}) Fault
store_take = take_answer Store

abbrev pub after_store : Holdings → ℕ → ℕ → Holdings
after_store = after_take Store

abbrev pub holding_answer : Holdings → ℕ → ℕ → Result ℕ Fault
holding_answer H t b = on_thread t (on_block b (Ok (H t b)))

-- the figure of a release lies between the number of blocks held and twice that; a book may say more
abbrev pub Released : Holdings → ℕ → Result ℕ Fault → Type 0
Released H t (Ok n) = (t < 16) × (blocks_held H t ≤ n) × (n ≤ 2 * blocks_held H t)
Released H t (Err f) = (16 ≤ t) × (f ≡ by_book (ThreadOutOfRange t))

abbrev pub after_release : Holdings → ℕ → Holdings
after_release H t = cond (nat_lt t 16) (cleared H t) H

abbrev pub seat_answer : ℕ → ℕ → Result (Unit {0}) Fault
seat_answer t board = on_thread t (on_board board granted)

abbrev pub drop_answer : ℕ → ℕ → Result (Unit {0}) Fault
drop_answer board b = on_board board (on_block b granted)
