-- What the holders of a block mean.
use Rattle.std.specs.Prelude.{◌≡◌, ℕ, cond, ◌==◌, List, Ok, Err, Result, slice_index_or}
use Rattle.std.specs.Int.{bit_at}
use Rattle.fault.specs.declared.Fault.{Fault}
use Rattle.book.specs.declared.Take.{Take}
use Rattle.book.specs.Holdings.{Holdings}
use Rattle.book.specs.Rules.{granted, take_answer, after_take}
use Rattle.further.specs.declared.holders.Holders.{Holders}
use Rattle.further.specs.declared.holders.Holders.TheVariants.{Readers, Writer}

-- how many tokens a thread holds
abbrev pub tokens_of : Holders → ℕ → ℕ
tokens_of (Readers set) t = bit_at set t
tokens_of (Writer writer) t = cond (t == writer.number) 64 0

-- holders for each block; outside the list nothing is held
abbrev pub held_in : List Holders → Holdings
held_in blocks = λ t b. tokens_of (slice_index_or blocks b (Readers 0)) t

-- the holdings of a book whose every block has these holders, so that one block can be asked by the rules of a book
abbrev pub everywhere : Holders → Holdings
everywhere holders = λ t b. tokens_of holders t

-- what a thread's take makes of a block's holders
abbrev pub TakenBy : Take → Holders → ℕ → Result Holders Fault → Type 0
TakenBy k holders t (Ok after) =
    (granted ≡ take_answer k (everywhere holders) t 0)
    × ((u : ℕ) → tokens_of after u ≡ after_take k (everywhere holders) t 0 u 0)
TakenBy k holders t (Err fault) = Err fault ≡ take_answer k (everywhere holders) t 0
