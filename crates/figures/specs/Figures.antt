-- The figures of a half hour, from the six bands of its frame.
use Rattle.std.specs.Prelude.{ℕ, ◌+◌, ◌*◌, ◌<◌, ◌≤◌, ◌≡◌, min, List, [], ◌∷◌, map, sum_by}
use Rattle.std.specs.List.{zip}
use Rattle.figures.specs.declared.Reading.{Reading}

-- what counts of a band: its energy in square millimetres, but at most 1,000,000
abbrev pub counted : ℕ → ℕ
counted band = min band 1000000

-- the energy of all bands
abbrev pub energy : List ℕ → ℕ
energy bands = sum_by counted bands

-- where the bands lie, in mHz: band k at 50 * k
abbrev pub frequencies : List ℕ
frequencies = map (λ k. 50 * k) (1 ∷ 2 ∷ 3 ∷ 4 ∷ 5 ∷ 6 ∷ [])

-- the energy of all bands, each times the square of its frequency
abbrev pub weighted : List ℕ → ℕ
weighted bands = sum_by (λ b. counted b.0 * (b.1 * b.1)) (zip bands frequencies)

-- root is the square root of n in whole numbers, rounded down
abbrev pub IsRoot : ℕ → ℕ → Type 0
IsRoot n root = (root * root ≤ n) × (n < (root + 1) * (root + 1))

-- both figures carry one half hour and are plausible
abbrev pub IsGood : Reading → Type 0
IsGood reading =
    (reading.height.hour ≡ reading.period.hour)
    × (reading.height.value ≤ 30000)
    × (1000 ≤ reading.period.value)
    × (reading.period.value ≤ 30000)
