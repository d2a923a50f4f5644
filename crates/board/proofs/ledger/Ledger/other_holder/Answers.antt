use Rattle.std.proofs.Common.{◌≡◌, true, false, length, sym, subst, rules, tests}
use Rattle.std.proofs.lemmas.Iterator.{YieldsList-from_slice, IsFirst-from_position}
use Rattle.std.proofs.lemmas.Iterator.Consumers.{YieldsList-from_enumerate}
use Rattle.book.specs.Holdings.{Lowest, is_in_the_way}
use Rattle.book.specs.Picture.{holdings_of}
use Rattle.book.specs.declared.Take.TheVariants.{Store}
use Rattle.board.specs.Drawn.{drawn}
use Rattle.board.proofs.Takes.{bars, lowest_first}
use Rattle.board.proofs.ledger.Ledger.other_holder.Goals as goal

pub returns : goal.returns
returns c =
    let k = c.args.self.now in
    let t = c.args.thread.number in
    let b = c.args.block.number in
    let all : length k.accounts ≡ 16 = search rules in
    let first = IsFirst-from_position _ _ c.position.result (λ p. bars t b p ≡ true) (λ p. bars t b p ≡ false) c.position.ensures.ran (YieldsList-from_enumerate (YieldsList-from_slice k.accounts cc) cc)
    (λ x q k. search (rules, tests)) (λ x q k. search (rules, tests)) in
    let same : c.map.result ≡ c.position.result = search (rules, tests) in
    subst (Lowest (is_in_the_way Store (holdings_of (drawn k)) t b) 16) (sym same) (lowest_first k.blocks k.accounts t b c.position.result all first)
