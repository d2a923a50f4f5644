-- The words of a window over the words below it.
use Rattle.std.specs.Prelude.{ℕ, ◌+◌, ◌-◌, ◌*◌, ◌/◌, min, List, [], ◌∷◌, length, take, drop}

-- the first block of the window: the first asked for, or the end where that lies past it
abbrev pub start_of : List ℕ → ℕ → ℕ
start_of ws first = min first (length ws / 8)

-- the blocks of the window: the count asked for, or what remains from the start
abbrev pub blocks_of : List ℕ → ℕ → ℕ → ℕ
blocks_of ws first count = min count (length ws / 8 - start_of ws first)

abbrev pub window_words : List ℕ → ℕ → ℕ → List ℕ
window_words ws first count = take (8 * blocks_of ws first count) (drop (8 * start_of ws first) ws)

-- the words below that lie before the window, and those behind it
abbrev pub window_beyond : List ℕ → ℕ → ℕ → List (List ℕ)
window_beyond ws first count = take (8 * start_of ws first) ws ∷ drop (8 * (start_of ws first + blocks_of ws first count)) ws ∷ []
