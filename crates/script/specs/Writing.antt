-- Bytes written at the front of a buffer.
use Rattle.std.specs.Prelude.{ℕ, cond, List, ◌++◌, length, drop, Some, None, Option, nat_lt}

-- the buffer with the bytes at its front, or as it was where they do not fit
abbrev pub fronted : List ℕ → List ℕ → List ℕ
fronted buffer bytes = cond (nat_lt (length buffer) (length bytes)) buffer (bytes ++ drop (length bytes) buffer)

-- how many bytes that took, or none where they do not fit
abbrev pub fronts : List ℕ → List ℕ → Option ℕ
fronts buffer bytes = cond (nat_lt (length buffer) (length bytes)) None (Some (length bytes))
