-- A root of a quotient that was rounded down.
use Rattle.std.proofs.Common.{ℕ, ◌+◌, ◌*◌, ◌/◌, ◌<◌, arith}
use Rattle.std.proofs.Math.Nat.{lt-div-mul-add}
use Rattle.std.proofs.lemmas.Nat.{mul-le}

-- what is below the next square before the division by w is below w times that square
pub below_next_square : (n w root : ℕ) → 0 < w → n / w < (root + 1) * (root + 1)
    → n < (root + 1) * (root + 1) * w
below_next_square n w root above next = below_times (lt-div-mul-add above) next
  where
    below_times : {q s : ℕ} → n < q * w + w → q < s → n < s * w
    below_times {q} {s} small less =
        omega (arith, mul-le (q + 1) w s w (omega (arith, less)) (omega arith))
