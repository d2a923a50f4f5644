-- Credits by block, beside the records that they add up.
use Rattle.std.proofs.Common.{◌≡◌, ℕ, ◌+◌, ◌<◌, cond, eqb, List, [], ◌∷◌, ◌++◌, map, length, set, sym, ap, ◌∙◌, arith}
use Rattle.std.proofs.lemmas.Bool.Decides.{nat_tests}
use Rattle.std.proofs.lemmas.List.{map-append}
use Rattle.marks.specs.declared.counts.Count.{Count}
use Rattle.marks.specs.declared.counts.Logged.{Logged}
use Rattle.book.specs.Picture.{credit_of}
use Rattle.book.proofs.Balances.{credit_push}
use Rattle.board.specs.Credits.{recorded, credits_in, tokens_of}
use Rattle.board.specs.declared.record.TokenRecord.{TokenRecord}
use Rattle.board.proofs.Drawings.{at_set}

-- one record more, and its count added to the credit on its block
pub noted_added : (credits : List (Count Logged)) (rs more : List TokenRecord) (r : TokenRecord) (i : ℕ) (x : Count Logged) → ((b : ℕ) → credits_in credits b ≡ credit_of b (map recorded rs)) → more ≡ rs ++ r ∷ [] →
    i ≡ r.block.number → i < length credits → x.tokens ≡ credit_of r.block.number (map recorded rs) + r.count.tokens → (b : ℕ) → credits_in (set credits i x) b ≡ credit_of b (map recorded more)
noted_added credits rs more r i x before grown place l sum b =
    let here = before r.block.number in
    let there = before b in
    let push = credit_push (map recorded rs) r.block.number r.count.tokens b in
    let e : cond (eqb b i) x.tokens (credits_in credits b) ≡ credit_of b (map recorded rs ++ recorded r ∷ []) = grind (arith, nat_tests) in
    ap (λ f. f b) (at_set tokens_of credits i x 0 l) ∙ e ∙ sym (ap (credit_of b) (ap (map recorded) grown ∙ map-append recorded rs (r ∷ [])))
