use Rattle.std.proofs.Common.{◌≡◌, ◌*◌, ◌+◌, ◌/◌, ◌≤◌, ◌++◌, [], ◌∷◌, min, length, get_or, rules, take, drop, refl, sym, ap, ◌∙◌, arith}
use Rattle.lent.specs.Numbers.{calls_of}
use Rattle.lent.proofs.Made.{groups_are, four_of, calls_from, none_from, sofar_none, sofar_more, sofar_all, turns_of}
use Rattle.std.proofs.lemmas.List.{length-take}
use Rattle.memory.proofs.Lent.{rest_is}
use Rattle.lent.proofs.Tables.{length_is, same_length, written}
use Rattle.lent.proofs.replays.replay.Goals as goal
use Rattle.lent.proofs.replays.replay.Goals.{else-loop-group-test, then-loop-group-test+in_default}

pub loop-group-init : goal.loop-group-init
loop-group-init g c = record {
  counted = refl;
  far = sofar_none _ _ _ _ _ _ _ _ c.fresh-store.ensures.memory c.fresh-store.ensures.start;
}

pub loop-group-preserved : goal.loop-group-preserved
loop-group-preserved g c =
    let l = c.loop-group in
    let room : 4 * l.made + 4 ≤ length l.answers = search rules in
    let is = calls_from _ l.made l.group-index l.invariant.counted _ c.loop-group-test.true (sym c.in-Some.is ∙ c.call_of.ensures) in
    let ns = c.numbers_of.result in
    let wrote = written (4 * l.made) l.answers (get_or ns 0 0) (get_or ns 1 0) (get_or ns 2 0) (get_or ns 3 0) room in
    let four = ap (λ ns. get_or ns 0 0 ∷ get_or ns 1 0 ∷ get_or ns 2 0 ∷ get_or ns 3 0 ∷ []) c.numbers_of.ensures ∙ four_of c.call.result in
    record {
      counted = ap (λ n. n + 1) l.invariant.counted;
      far = sofar_more _ _ _ _ _ _ _ l.made l.answers l.store l.invariant.far c.in-Some.call c.call.result _ _ is (wrote ∙ ap (λ ns. take (4 * l.made) l.answers ++ (ns ++ drop 4 (drop (4 * l.made) l.answers))) four) c.call.ensures.leaves c.call.ensures.step;
    }

pub copy_from_slice-requires : goal.copy_from_slice-requires
copy_from_slice-requires g c =
    let far = c.loop-group.invariant.far in
    let kept = same_length c.fresh-store.result.memory.buffer.items c.loop-group.store.memory.buffer.items far.reached.size far.untouched in
    let bytes = length_is c.args.table.now c.buffer.result.now (ap length (c.buffer.ensures ∙ ap (λ m. m.buffer.items) c.memory.ensures) ∙ kept) (ap (λ m. m.buffer.items) c.fresh-store.ensures.memory ∙ c.copy_of.ensures) in
    omega (arith, bytes, c.min-used.ensures, length-take c.min-used.result c.args.table.now)

pub returns : goal.returns
returns g c =
    let l = c.loop-group in
    let far = l.invariant.far in
    let front_len = c.as_chunks.ensures.front_len in
    let room : c.min-room.result ≡ min (length c.args.calls.now / 4) (length c.args.answers.now / 4) = omega (arith, c.min-room.ensures, front_len) in
    let gs = groups_are c.args.calls.now c.args.answers.now c.as_chunks.result.0.now c.min-room.result c.as_chunks.ensures.front room in
    let none : calls_of (drop l.made (take c.min-room.result c.as_chunks.result.0.now)) ≡ [] = elim c.loop-group-test.branch [
      | else-loop-group-test w ↦ none_from _ l.made l.group-index l.invariant.counted (omega arith)
      | then-loop-group-test+in_default w ↦ calls_from _ l.made l.group-index l.invariant.counted _ w.loop-group-test.true (sym w.in_default.is ∙ w.call_of.ensures)
    ] in
    let rest = rest_is 4096 c.args.table.now c.min-used.result (omega (arith, c.min-used.ensures)) in
    let in_place = c.copy_from_slice.ensures.after ∙ c.buffer.ensures ∙ ap (λ m. m.buffer.items) c.memory.ensures in
    record {
      memory = c.copy_of.result;
      store = l.store;
      turns = turns_of far.history;
      lent = c.copy_of.ensures;
      kept = sofar_all _ _ _ _ _ _ _ l.made l.answers l.store far _ _ c.fresh-store.ensures.memory c.fresh-store.ensures.book none _ gs;
      given_back = λ i. in_place i ++ rest i;
      counted = far.many;
      answered = far.written;
    }
