-- What the ledger's blocks and accounts mean: a picture. Outside the ranges it shows what a fresh ledger does.
use Rattle.std.specs.Prelude.{ℕ, List, [], map, slice_index, slice_index_or}
use Rattle.book.specs.Picture.{Recorded, Picture}
use Rattle.board.specs.Logged.{records_in}
use Rattle.board.specs.Shown.{marks_in}
use Rattle.board.specs.declared.block.Block.{Block}
use Rattle.board.specs.declared.ledger.Account.{Account}

abbrev pub seat_of : Account → ℕ
seat_of a = a.board.number

abbrev pub seats_in : List Account → (ℕ → ℕ)
seats_in accounts = λ t. slice_index (map seat_of accounts) t

abbrev pub log_of : Account → List Recorded
log_of a = records_in a.log

abbrev pub logs_in : List Account → (ℕ → List Recorded)
logs_in accounts = λ t. slice_index_or (map log_of accounts) t []

abbrev pub picture_of : List Block → List Account → Picture
picture_of blocks accounts = record { marks = marks_in blocks; seats = seats_in accounts; logs = logs_in accounts }
