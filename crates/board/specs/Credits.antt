-- What a token record means, and a table of credits by block.
use Rattle.std.specs.Prelude.{ℕ, List, map, slice_index}
use Rattle.marks.specs.declared.counts.Count.{Count}
use Rattle.marks.specs.declared.counts.Logged.{Logged}
use Rattle.book.specs.Picture.{Recorded}
use Rattle.board.specs.declared.record.TokenRecord.{TokenRecord}

abbrev pub recorded : TokenRecord → Recorded
recorded r = record { block = r.block.number; count = r.count.tokens }

abbrev pub tokens_of : Count Logged → ℕ
tokens_of c = c.tokens

-- past the last block there is none
abbrev pub credits_in : List (Count Logged) → (ℕ → ℕ)
credits_in cs = λ b. slice_index (map tokens_of cs) b
