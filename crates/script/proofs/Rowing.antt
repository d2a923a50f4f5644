-- The lengths of the numbers in a row.
use Rattle.std.proofs.Common.{ℕ, ◌+◌, ◌^◌, ◌<◌, ◌≤◌, length, decimal, arith}
use Rattle.std.proofs.lemmas.Fmt.{length-decimal-le}
use Rattle.fault.specs.Numbers.{number_of}
use Rattle.fault.specs.declared.Refusal.{Refusal}

-- a number has at most twenty digits
pub width : (n : ℕ) → n < 2 ^ 64 → length (decimal n) ≤ 20
width n h = length-decimal-le 20 n (omega arith) (omega arith) h

number_small : (r : Refusal) → number_of r < 100
number_small r = grind arith

-- a refusal's number has at most two digits
pub width_number : (r : Refusal) → length (decimal (number_of r)) ≤ 2
width_number r = length-decimal-le 2 (number_of r) (omega arith) (omega (arith, number_small r)) (omega (arith, number_small r))

-- the pair of a job's end has at most five
pub width_pair : (records figure : ℕ) → (records ≤ 64) × (figure ≤ 128) → length (decimal records) + length (decimal figure) ≤ 5
width_pair records figure h =
    omega (arith, length-decimal-le 2 records (omega arith) (omega (arith, h.0)) (omega (arith, h.0)), length-decimal-le 3 figure (omega arith) (omega (arith, h.1)) (omega (arith, h.1)))
