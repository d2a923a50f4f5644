-- The latest record with a given key, in a list of records that has the oldest first.
use Rattle.std.specs.Prelude.{◌≡◌, ℕ, List, ◌∷◌, ◌++◌, reverse, Some, None, Option, ◌==◌, ◌≢◌}
use Rattle.std.specs.List.{AllByRecursion, find}

-- the first from the end that has the key
unfoldable pub latest_of : {R : Type 0} → (R → ℕ) → ℕ → List R → Option R
latest_of keyed k rs = find (λ r. keyed r == k) (reverse rs)

-- no record has the key
abbrev pub Lacks : {R : Type 0} → (R → ℕ) → ℕ → List R → Type 0
Lacks keyed k rs = AllByRecursion (λ r. keyed r ≢ k) rs

-- r stands among the records with the key, and no record after it has the key
pub record Stands {R : Type 0} (keyed : R → ℕ) (k : ℕ) (rs : List R) (r : R) : Type 0 where
  pub before : List R
  pub after : List R
  pub stands : rs ≡ before ++ r ∷ after
  pub has : keyed r ≡ k
  pub last : Lacks keyed k after

-- what it means that a search found a record, or none
abbrev pub IsLatest : {R : Type 0} → (R → ℕ) → ℕ → List R → Option R → Type 0
IsLatest keyed k rs None = Lacks keyed k rs
IsLatest keyed k rs (Some r) = Stands keyed k rs r
