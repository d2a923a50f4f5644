-- The two kinds of holders leave no other holding: a book of them is sound, whatever they are.
use Rattle.std.specs.Prelude.{◌≡◌, ℕ, true, List, ◌≢◌, slice_index_or}
use Rattle.std.proofs.Common.{arith}
use Rattle.std.proofs.lemmas.Bool.Decides.{nat_tests}
use Rattle.std.proofs.lemmas.Nat.Bits.{bit_at-lt}
use Rattle.book.specs.Holdings.{Sound, is_holding}
use Rattle.further.specs.declared.holders.Holders.{Holders}
use Rattle.further.specs.declared.holders.Holders.TheVariants.{Readers, Writer}
use Rattle.further.specs.Held.{tokens_of, held_in}

counted : (holders : Holders) (t : ℕ) → is_holding (tokens_of holders t) ≡ true
counted (Readers set) t = let l = bit_at-lt set t in grind (arith, nat_tests)
counted (Writer writer) t = grind (arith, nat_tests)

alone : (holders : Holders) (t u : ℕ) → (u ≢ t) → tokens_of holders t ≡ 64 → tokens_of holders u ≡ 0
alone (Readers set) t u ne e = let l = bit_at-lt set t in absurd (omega arith)
alone (Writer writer) t u ne e = grind (arith, nat_tests)

pub holders_sound : (blocks : List Holders) → Sound (held_in blocks)
holders_sound blocks =
    record {
      counted = λ t b l m. counted (slice_index_or blocks b (Readers 0)) t;
      alone = λ t u b l m n ne e. alone (slice_index_or blocks b (Readers 0)) t u ne e;
    }
