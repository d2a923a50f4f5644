use Rattle.std.proofs.Common.{◌≡◌, ℕ, length, map, take}
use Rattle.board.specs.Credits.{recorded, credits_in}
use Rattle.board.specs.Shown.{marks_in}
use Rattle.board.proofs.Releases.{relieved_by, left_by}
use Rattle.board.proofs.tokens.relieve.Given as goal

-- the records that came so far are given back
abbrev pub invariant-each : goal.invariant-each
invariant-each l =
    let seen = map recorded (take l.record-index l.record-items) in
    let log = map recorded l.record-items in
    (length l.credits ≡ 64) × (marks_in l.blocks ≡ relieved_by seen log (marks_in l.initial.blocks)) × ((b : ℕ) → credits_in l.credits b ≡ left_by seen log b)
