-- Fission and fusion of metastates.
use Rattle.std.specs.Prelude.{ℕ, ◌+◌, cond, Some, None, Ok, Err, Option, Result, ◌==◌, nat_lt}
use Rattle.fault.specs.declared.Fault.{Fault}
use Rattle.fault.specs.declared.Layer.TheVariants.{Marks}
use Rattle.fault.specs.declared.Refusal.TheVariants.{MarksApart}
use Rattle.marks.specs.States.{in_range}
use Rattle.marks.specs.declared.Mark.{Mark}
use Rattle.marks.specs.declared.states.Metastate.{Metastate}
use Rattle.marks.specs.declared.states.Metastate.TheVariants.{Anonymous, Reader, Writer}
use Rattle.std.specs.Option.{option_map}

-- the metastates of the marks in an answer
abbrev pub state_in : Option Mark → Option Metastate
state_in o = option_map (λ m. m.state) o

abbrev pub states_in : Mark × Mark → Metastate × Metastate
states_in p = (p.0.state, p.1.state)

abbrev pub fused_in : Result Mark Fault → Result Metastate Fault
fused_in (Ok m) = Ok m.state
fused_in (Err e) = Err e

-- a mark is made of a metastate in range, and of no other
abbrev pub mark_of : Metastate → Option Metastate
mark_of s = cond (in_range s) (Some s) None

-- fission: what stays, and what the new copy gets
abbrev pub split_of : Metastate → Metastate × Metastate
split_of (Anonymous u) = (Anonymous u, Anonymous 0)
split_of (Reader x) = (Reader x, Anonymous 0)
split_of (Writer x) = (Writer x, Writer x)

-- two marks that cannot stand for one block together
abbrev pub apart : ℕ → Result Metastate Fault
apart tokens = Err record { layer = Marks; refusal = MarksApart tokens }

-- readers of two copies, counted together
abbrev pub readers_of : ℕ → Result Metastate Fault
readers_of tokens = cond (nat_lt tokens 64) (Ok (Anonymous tokens)) (apart tokens)

-- fusion: (0, –) leaves a reader named, readers add up, a writer's mark meets only itself
abbrev pub fuse_of : Metastate → Metastate → Result Metastate Fault
fuse_of (Anonymous u) (Anonymous v) = readers_of (u + v)
fuse_of (Anonymous u) (Reader y) = cond (u == 0) (Ok (Reader y)) (readers_of (u + 1))
fuse_of (Anonymous u) (Writer y) = apart (u + 64)
fuse_of (Reader x) (Anonymous v) = cond (v == 0) (Ok (Reader x)) (readers_of (1 + v))
fuse_of (Reader x) (Reader y) = readers_of 2
fuse_of (Reader x) (Writer y) = apart 65
fuse_of (Writer x) (Anonymous v) = apart (64 + v)
fuse_of (Writer x) (Reader y) = apart 65
fuse_of (Writer x) (Writer y) = cond (x == y) (Ok (Writer x)) (apart 128)
