-- What the energies of six bands are at most.
use Rattle.std.proofs.Common.{◌≡◌, ℕ, ◌≤◌, List, [], ◌∷◌, length, arith}
use Rattle.figures.specs.Figures.{energy, weighted}

-- each counts at most 10^6
pub energy_bound : (bands : List ℕ) → length bands ≡ 6 → energy bands ≤ 6000000
energy_bound (a ∷ b ∷ c ∷ d ∷ e ∷ f ∷ []) six = omega arith
energy_bound bands six = grind arith

-- the squares of the six frequencies add up to 227,500
pub weighted_bound : (bands : List ℕ) → length bands ≡ 6 → weighted bands ≤ 227500000000
weighted_bound (a ∷ b ∷ c ∷ d ∷ e ∷ f ∷ []) six = omega arith
weighted_bound bands six = grind arith
