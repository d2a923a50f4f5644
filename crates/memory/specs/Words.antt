-- The words of a memory, and what read and write answer.
use Rattle.std.specs.Prelude.{◌≡◌, ℕ, ◌*◌, ◌/◌, ◌≤◌, min, cond, List, length, Ok, Err, Result, nat_lt, slice_index}
use Rattle.fault.specs.declared.Fault.{Fault}
use Rattle.fault.specs.declared.Layer.TheVariants.{Memory}
use Rattle.fault.specs.declared.Refusal.TheVariants.{AddressOutOfRange}

-- whole blocks of eight words, at most 64 of them
abbrev pub Whole : List ℕ → Type 0
Whole ws = (8 * (length ws / 8) ≡ length ws) × (length ws ≤ 512)

-- the whole blocks among so many items, a block having `block` of them, and at most 64
abbrev pub whole_blocks : ℕ → ℕ → ℕ
whole_blocks items block = min (items / block) 64

abbrev pub address_fault : ℕ → Fault
address_fault a = record { layer = Memory; refusal = AddressOutOfRange a }

-- the word at an address, or the refusal of an address past the last word
abbrev pub read_answer : List ℕ → ℕ → Result ℕ Fault
read_answer ws a = cond (nat_lt a (length ws)) (Ok (slice_index ws a)) (Err (address_fault a))

abbrev pub write_answer : List ℕ → ℕ → Result (Unit {0}) Fault
write_answer ws a = cond (nat_lt a (length ws)) (Ok tt) (Err (address_fault a))
