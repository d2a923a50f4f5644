-- What the holdings of one block add up to.
use Rattle.std.proofs.Common.{◌≡◌, ℕ, zero, suc, ◌<◌, Bool, cond, eqb, refl, ◌∙◌, arith}
use Rattle.std.proofs.lemmas.Bool.Decides.{nat_tests}
use Rattle.book.specs.Holdings.{Holdings, Sound, count_below}
use Rattle.book.specs.Picture.{sum_below, column}
use Rattle.book.proofs.Totals.{sum_same, sum-only}

-- 64, where a thread holds all tokens
pub column-all : (H : Holdings) (t b : ℕ) → Sound H → t < 16 → b < 64 → H t b ≡ 64 → column 16 H b ≡ 64
column-all H t b s l k e = sum-only (λ u. H u b) 16 t l (λ u m ne. s.alone t u b l m k ne e) ∙ e

count_sum : (p : ℕ → Bool) (n : ℕ) → sum_below (λ i. cond (p i) 1 0) n ≡ count_below p n
unfolding sum_below count_below
count_sum p zero = refl
count_sum p (suc n) = let e = count_sum p n in omega arith

-- and otherwise the number of threads that hold one
pub column-ones : (H : Holdings) (b : ℕ) → Sound H → b < 64 → ((t : ℕ) → t < 16 → H t b ≡ 64 → ⊥) → column 16 H b ≡ count_below (λ t. eqb (H t b) 1) 16
column-ones H b s k none = sum_same (λ t. H t b) (λ t. cond (eqb (H t b) 1) 1 0) 16 (λ t l. let c = s.counted t b l k in let ne = none t l in grind (arith, nat_tests)) ∙ count_sum (λ t. eqb (H t b) 1) 16
