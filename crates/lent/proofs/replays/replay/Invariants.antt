use Rattle.std.proofs.Common.{◌≡◌, ℕ}
use Rattle.arrayvec.specs.ArrayVec.{ArrayVec}
use Rattle.memory.specs.Buffers.{image_words, image_beyond}
use Rattle.memory.specs.declared.buffer.Buffer.{Buffer}
use Rattle.lent.proofs.Made.{Sofar}
use Rattle.lent.proofs.replays.replay.Given as goal

abbrev pub invariant-loop-group : goal.invariant-loop-group
invariant-loop-group g l = record {
  counted : l.made ≡ l.group-index;
  far : Sofar (λ (m : Buffer (ArrayVec ℕ)). image_words m.buffer.items) (λ (m : Buffer (ArrayVec ℕ)). image_beyond m.buffer.items) g.B.Book.holding g.B.Book.moves l.initial.store l.groups l.initial.answers l.made l.answers l.store;
}
