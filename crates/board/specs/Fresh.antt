-- A board book as it is made.
use Rattle.std.specs.Prelude.{◌≡◌}
use Rattle.book.specs.Picture.{fresh_picture}
use Rattle.board.specs.Drawn.{drawn}
use Rattle.board.specs.declared.BoardBook.{BoardBook}

-- P of a board book in which no token is taken
pub record OnFreshBoard (P : BoardBook → Type 0) : Type 0 where
  pub book : BoardBook
  pub fresh : drawn book.ledger ≡ fresh_picture
  pub promised : P book
