-- What a field of bytes writes in decimal.
use Rattle.std.specs.Prelude.{◌≡◌, ℕ, ◌+◌, ◌-◌, ◌*◌, ◌^◌, ◌<◌, Bool, cond, not, ◌&&◌, ◌||◌, List, [], ◌∷◌, length, Some, None, decimal, Option, ◌==◌, ◌≢◌, nat_lt, slice_index}
use Rattle.std.specs.Char.{is_ascii_digit}
use Rattle.std.specs.Str.{all_ascii_digits}

-- the number that the digits write, behind those of n
unfoldable pub read_on : ℕ → List ℕ → ℕ
read_on n [] = n
read_on n (c ∷ cs) = read_on (n * 10 + (c - 48)) cs

-- one more digit behind n, where the byte is one and the number stays below 2^64
abbrev pub pushed : ℕ → ℕ → Option ℕ
pushed n c = cond (is_ascii_digit c && nat_lt (n * 10 + (c - 48)) (2 ^ 64)) (Some (n * 10 + (c - 48))) None

-- not empty, and no leading zero but for 0 itself
abbrev pub opened : List ℕ → Bool
opened field = nat_lt 0 (length field) && (length field == 1 || not (slice_index field 0 == 48))

-- the number that a field writes
unfoldable pub number_in : List ℕ → Option ℕ
number_in field = cond (opened field && all_ascii_digits field && nat_lt (read_on 0 field) (2 ^ 64)) (Some (read_on 0 field)) None

-- a number is read exactly from its decimal writing
abbrev pub Reads : List ℕ → Option ℕ → Type 0
Reads field (Some n) = (n < 2 ^ 64) × (field ≡ decimal n)
Reads field None = (n : ℕ) → n < 2 ^ 64 → field ≢ decimal n
