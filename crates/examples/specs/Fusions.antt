-- Two marks fused, and the code of a mark: what the definitions give, and that the calls answered it.
use Rattle.std.specs.Prelude.{◌≡◌, ℕ, Ok, Err, Result}
use Rattle.fault.specs.Numbers.{number_of, place_of}
use Rattle.fault.specs.declared.Fault.{Fault}
use Rattle.fault.specs.declared.Layer.TheVariants.{Marks}
use Rattle.marks.specs.Codes.{code_of}
use Rattle.marks.specs.Rules.{fuse_of, fused_in}
use Rattle.marks.specs.declared.Mark.{Mark}
use Rattle.marks.specs.declared.states.Metastate.{Metastate}

-- a with b is m
pub record Fuses (a b m : Metastate) (r : Result Mark Fault) : Type 0 where
  pub defined : fuse_of a b ≡ Ok m
  pub called : fused_in r ≡ fuse_of a b

abbrev pub RefusedBy : ℕ → ℕ → Result Metastate Fault → Type 0
RefusedBy number carried (Ok m) = ⊥
RefusedBy number carried (Err f) = (f.layer ≡ Marks) × (number_of f.refusal ≡ number) × (place_of f.refusal ≡ carried)

-- a with b is refused by the marks, by this number, carrying this sum
pub record Refuses (a b : Metastate) (number carried : ℕ) (r : Result Mark Fault) : Type 0 where
  pub defined : RefusedBy number carried (fuse_of a b)
  pub called : fused_in r ≡ fuse_of a b

-- the code of m
pub record Codes (m : Metastate) (code : ℕ) (r : ℕ) : Type 0 where
  pub defined : code_of m ≡ code
  pub called : r ≡ code_of m
