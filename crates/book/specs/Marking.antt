-- What each call makes of a picture, granted or refused: the rules of a book that keeps its tokens by marks.
use Rattle.std.specs.Prelude.{◌≡◌, ℕ, ◌+◌, ◌-◌, Bool, cond, ◌&&◌, List, [], ◌∷◌, ◌++◌, length, Some, None, Ok, Err, fold, Option, Result, ◌==◌, nat_eq, nat_le, nat_lt, slice_index_or, slice_set}
use Rattle.fault.specs.declared.Fault.{Fault}
use Rattle.marks.specs.Rules.{split_of, fuse_of}
use Rattle.marks.specs.States.{debit_of, is_writer}
use Rattle.marks.specs.declared.states.Metastate.{Metastate}
use Rattle.marks.specs.declared.states.Metastate.TheVariants.{Anonymous, Reader, Writer}
use Rattle.book.specs.declared.Take.TheVariants.{Load}
use Rattle.book.specs.Moves.{Move, loaded, stored, released, seated, dropped}
use Rattle.book.specs.Picture.{Marks, Recorded, Picture, no_copies, credit_of, holdings_of}
use Rattle.book.specs.Rules.{by_book, granted, conflict, on_thread, load_take, store_take, seat_answer, drop_answer}

-- one value replaced
abbrev pub set_at : {A : Type 0} → (ℕ → A) → ℕ → A → (ℕ → A)
set_at f i v = λ j. cond (j == i) v (f j)

abbrev pub marked : Picture → ℕ → Marks → Picture
marked p b m = record { marks = set_at p.marks b m; seats = p.seats; logs = p.logs }

abbrev pub logged : Picture → ℕ → List Recorded → Picture
logged p t log = record { marks = p.marks; seats = p.seats; logs = set_at p.logs t log }

-- one record more, of a block and a count
abbrev pub noted : Picture → ℕ → ℕ → ℕ → Picture
noted p t b n = logged p t (p.logs t ++ record { block = b; count = n } ∷ [])

-- the fused mark, or home's where the marks lie apart; a book in balance never meets that
abbrev pub or_home : Metastate → Result Metastate Fault → Metastate
or_home h (Ok m) = m
or_home h (Err e) = h

-- home, with one board's copy fused in
abbrev pub fused : Metastate → Option Metastate → Metastate
fused h None = h
fused h (Some m) = or_home h (fuse_of h m)

-- all copies are fused into home, board after board, and none is left
unfoldable pub gathered : Marks → Marks
gathered m = record { home = fold fused m.home m.copies; copies = no_copies }

-- one board's copy, where it has one, is fused into home and taken away
unfoldable pub withdrawn : Marks → ℕ → Marks
withdrawn m i = record { home = fused m.home (slice_index_or m.copies i None); copies = slice_set m.copies i None }

-- the mark of a board's copy, or of the one that a split gives
abbrev pub or_split : Metastate → Option Metastate → Metastate
or_split h (Some m) = m
or_split h None = (split_of h).1

abbrev pub copy_or_split : Marks → ℕ → Metastate
copy_or_split m i = or_split m.home (slice_index_or m.copies i None)

-- the marks with this copy on the board; a split leaves home as it was
abbrev pub with_copy : Marks → ℕ → Metastate → Marks
with_copy m i c = record { home = m.home; copies = slice_set m.copies i (Some c) }

-- a copy from which the thread takes one token; a writer's copy gives none
abbrev pub read_by : ℕ → Metastate → Metastate
read_by t (Anonymous u) = cond (u == 0) (Reader t) (Anonymous (u + 1))
read_by t (Reader x) = Anonymous 2
read_by t (Writer x) = Writer x

-- what a load by a thread without credit answers to the copy on its board
abbrev pub load_answer : Metastate → Result (Unit {0}) Fault
load_answer (Anonymous u) = granted
load_answer (Reader x) = granted
load_answer (Writer x) = Err (by_book (conflict Load x))

-- a load by a thread without credit, on its board
unfoldable pub one_taken : Picture → ℕ → ℕ → Picture
one_taken p t b =
    let m = p.marks b in
    let board = p.seats t in
    let copy = copy_or_split m board in
    cond (is_writer copy)
    (marked p b (with_copy m board copy))
    (noted (marked p b (with_copy m board (read_by t copy))) t b 1)

abbrev pub load_picture : Picture → ℕ → ℕ → Picture
load_picture p t b = cond (nat_lt 0 (credit_of b (p.logs t))) p (one_taken p t b)

-- the marks, with the thread as the block's writer where it is granted the store
abbrev pub written_if : Bool → ℕ → Marks → Marks
written_if grant t m = record { home = cond grant (Writer t) m.home; copies = m.copies }

-- a store by a thread whose credit is below 64: granted where the debit is its own credit
unfoldable pub all_taken : Picture → ℕ → ℕ → Picture
all_taken p t b =
    let m = gathered (p.marks b) in
    let credit = credit_of b (p.logs t) in
    let own = nat_eq (debit_of m.home) credit in
    let q = marked p b (written_if own t m) in
    cond own (noted q t b (64 - credit)) q

abbrev pub store_picture : Picture → ℕ → ℕ → Picture
store_picture p t b = cond (nat_le 64 (credit_of b (p.logs t))) p (all_taken p t b)

-- a block gathered, with a credit taken off home's debit
unfoldable pub relieved : ℕ → Marks → Marks
relieved credit m = record { home = Anonymous (debit_of (gathered m).home - credit); copies = no_copies }

-- each block below n on which the log has credit is relieved of it
abbrev pub relieved_to : ℕ → (ℕ → Marks) → List Recorded → (ℕ → Marks)
relieved_to n marks log = λ b. cond (nat_lt b n && nat_lt 0 (credit_of b log)) (relieved (credit_of b log) (marks b)) (marks b)

unfoldable pub relieved_picture : ℕ → Picture → ℕ → Picture
relieved_picture n p t = record { marks = relieved_to n p.marks (p.logs t); seats = p.seats; logs = p.logs }

-- all 64 blocks are relieved, and the log is emptied
abbrev pub release_picture : Picture → ℕ → Picture
release_picture p t = logged (relieved_picture 64 p t) t []

abbrev pub seat_picture : Picture → ℕ → ℕ → Picture
seat_picture p t board = record { marks = p.marks; seats = set_at p.seats t board; logs = p.logs }

abbrev pub drop_picture : Picture → ℕ → ℕ → Picture
drop_picture p board b = marked p b (withdrawn (p.marks b) board)

-- the picture before where n is not below its limit, and otherwise the one after
abbrev pub checked : ℕ → ℕ → Picture → Picture → Picture
checked n limit before after = cond (nat_lt n limit) after before

-- the figure of a release is the number of the thread's records
abbrev pub release_figure : Picture → ℕ → Result ℕ Fault
release_figure p t = on_thread t (Ok (length (p.logs t)))

-- answer and picture after each call
abbrev pub Marking : Picture → Move → Picture → Type 0
Marking p (loaded t b r) q = (r ≡ load_take (holdings_of p) t b) × (q ≡ checked t 16 p (checked b 64 p (load_picture p t b)))
Marking p (stored t b r) q = (r ≡ store_take (holdings_of p) t b) × (q ≡ checked t 16 p (checked b 64 p (store_picture p t b)))
Marking p (released t r) q = (r ≡ release_figure p t) × (q ≡ checked t 16 p (release_picture p t))
Marking p (seated t board r) q = (r ≡ seat_answer t board) × (q ≡ checked t 16 p (checked board 4 p (seat_picture p t board)))
Marking p (dropped board b r) q = (r ≡ drop_answer board b) × (q ≡ checked board 4 p (checked b 64 p (drop_picture p board b)))
