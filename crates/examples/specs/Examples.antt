-- The worked examples.
use Rattle.std.specs.Prelude.{◌≡◌, ℕ, Result}
use Rattle.fault.specs.declared.Fault.{Fault}
use Rattle.marks.specs.declared.states.Metastate.TheVariants.{Anonymous, Reader, Writer}
use Rattle.book.specs.Holdings.{Holdings}
use Rattle.book.specs.Marking.{Marking}
use Rattle.book.specs.Moves.{Move}
use Rattle.book.specs.Picture.{fresh_picture, holdings_of}
use Rattle.board.specs.Drawn.{drawn}
use Rattle.board.specs.declared.BoardBook.{BoardBook}
use Rattle.book.specs.Exact.{Exactly}
use Rattle.full.specs.Held.{held_in}
use Rattle.full.specs.declared.table.FullBook.{FullBook}
use Rattle.examples.specs.Fusions.{Fuses, Refuses, Codes}
use Rattle.examples.specs.Jobs.{plain, Aborted, Committed}
use Rattle.examples.specs.declared.WorkedExamples.{WorkedExamples}
use Rattle.examples.specs.declared.jobs.Ended.{Ended}

-- holdings and moves, as each book gives them
abbrev pub board_holding : BoardBook → Holdings
board_holding k = holdings_of (drawn k.ledger)

abbrev pub board_moves : BoardBook → Move → BoardBook → Type 0
board_moves k m l = Marking (drawn k.ledger) m (drawn l.ledger)

abbrev pub full_holding : FullBook → Holdings
full_holding k = held_in k.rows

abbrev pub full_moves : FullBook → Move → FullBook → Type 0
full_moves k m l = Exactly (held_in k.rows) m (held_in l.rows)

-- the two jobs on a new board book
abbrev pub AbortedOnBoard : ℕ → Result Ended Fault → Type 0
AbortedOnBoard figure r =
    (book : BoardBook) × (drawn book.ledger ≡ fresh_picture) × Aborted plain board_holding board_moves book figure r

abbrev pub CommittedOnBoard : ℕ → Result Ended Fault → Type 0
CommittedOnBoard figure r =
    (book : BoardBook) × (drawn book.ledger ≡ fresh_picture) × Committed plain board_holding board_moves book figure r

-- and on a new full book
abbrev pub AbortedOnFull : ℕ → Result Ended Fault → Type 0
AbortedOnFull figure r =
    (book : FullBook) × (held_in book.rows ≡ (λ t b. 0)) × Aborted plain full_holding full_moves book figure r

abbrev pub CommittedOnFull : ℕ → Result Ended Fault → Type 0
CommittedOnFull figure r =
    (book : FullBook) × (held_in book.rows ≡ (λ t b. 0)) × Committed plain full_holding full_moves book figure r

-- marks fused and coded
pub record MarksWorked (r : WorkedExamples) : Type 0 where
  -- (1, 3) with (0, –) is (1, 3)
  pub reader_kept : Fuses (Reader 3) (Anonymous 0) (Reader 3) r.reader_kept
  -- (1, 3) with (1, 5) is (2, –)
  pub readers_counted : Fuses (Reader 3) (Reader 5) (Anonymous 2) r.readers_counted
  -- (2, –) with (1, 5) is (3, –)
  pub reader_added : Fuses (Anonymous 2) (Reader 5) (Anonymous 3) r.reader_added
  -- (64, 3) with itself is (64, 3)
  pub writer_kept : Fuses (Writer 3) (Writer 3) (Writer 3) r.writer_kept
  -- (64, 3) with (0, –) is refused by 10, carrying 64
  pub writer_refused : Refuses (Writer 3) (Anonymous 0) 10 64 r.writer_refused
  -- 63 tokens without a thread are the most that a mark can show: 40 and 24 are refused like the writer
  pub most_readers : Fuses (Anonymous 40) (Anonymous 23) (Anonymous 63) r.most_readers
  pub too_many_readers : Refuses (Anonymous 40) (Anonymous 24) 10 64 r.too_many_readers
  -- the codes of (1, 3) and (64, 3)
  pub reader_code : Codes (Reader 3) 16387 r.reader_code
  pub writer_code : Codes (Writer 3) 32771 r.writer_code

-- jobs ended: the pair of counts, and the word afterwards
pub record JobsWorked (r : WorkedExamples) : Type 0 where
  -- the word at address 3 is 10 before the job and after it; either book's figure is 1
  pub aborted_on_board : AbortedOnBoard 1 r.aborted_on_board
  pub aborted_on_full : AbortedOnFull 1 r.aborted_on_full
  -- the board book counts a record for each of both takes, the full book a block
  pub committed_on_board : CommittedOnBoard 2 r.committed_on_board
  pub committed_on_full : CommittedOnFull 1 r.committed_on_full
