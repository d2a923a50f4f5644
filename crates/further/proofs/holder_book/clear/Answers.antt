use Rattle.std.proofs.Common.{◌≡◌, ◌+◌, ◌<◌, length, get_or, cond, ltb, rules, arith}
use Rattle.std.proofs.lemmas.Bool.Decides.{nat_tests}
use Rattle.further.specs.Held.{tokens_of}
use Rattle.further.proofs.Blocks.{cleared_none, cleared_more}
use Rattle.further.proofs.holder_book.clear.Goals as goal
use Rattle.further.proofs.holder_book.clear.Goals.{then-tokens-gt0, else-tokens-gt0}

pub loop-holders-init : goal.loop-holders-init
loop-holders-init c = cleared_none c.args.blocks.now c.args.thread.number (search rules)

pub loop-holders-preserved : goal.loop-holders-preserved
loop-holders-preserved c =
    let l : c.loop-holders.holders-index < length c.loop-holders.blocks = search rules in
    let e : c.if-tokens-gt0.held ≡ c.loop-holders.held + cond (ltb 0 (tokens_of (get_or c.loop-holders.blocks c.loop-holders.holders-index c.holders-item.result) c.args.thread.number)) 1 0 =
    elim c.if-tokens-gt0.branch [
      | then-tokens-gt0 w ↦ let h = w.held-is in let t = c.tokens.ensures in let k = w.if-tokens-gt0.true in grind (arith, nat_tests)
      | else-tokens-gt0 w ↦ let h = w.held-is in let t = c.tokens.ensures in let k = w.if-tokens-gt0.false in grind (arith, nat_tests)
    ] in
    cleared_more c.args.blocks.now c.loop-holders.blocks c.args.thread.number c.loop-holders.holders-index c.loop-holders.held c.if-tokens-gt0.held c.without.result c.holders-item.result c.loop-holders.invariant l e c.without.ensures
