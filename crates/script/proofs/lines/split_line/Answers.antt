use Rattle.std.proofs.Common.{[], eqb, ap, arith, rules}
use Rattle.std.proofs.lemmas.Grind.{common_steps}
use Rattle.std.proofs.lemmas.List.Sorted.{answers_always}
use Rattle.script.proofs.Cutting.{cut_first, end_law}
use Rattle.script.proofs.Splitting.{first, second, unwrapped}
use Rattle.script.specs.Pieces.{cut}
use Rattle.script.proofs.lines.split_line.Goals as goal

pub returns : goal.returns
returns c =
    let one = first (λ b. eqb b 10) c.args.script.now _ _ _ _ _ _ _ _ _ c.next.result c.next.ensures.steps c.splitn-parts.ensures.count c.splitn-parts.ensures.done c.splitn-parts.ensures.rest (answers_always _ _ _ (λ f a r g h. search rules)) in
    let two = second (λ b. eqb b 10) c.args.script.now _ _ _ _ _ _ _ _ _ c.next-2.result c.next-2.ensures.steps (one.0, one.2) in
    let line = unwrapped _ _ _ one.1 c.unwrap_or_default.ensures in
    let rest = unwrapped _ _ _ two c.unwrap_or_default-2.ensures in
    record { line = line; rest = rest; shorter = λ h. grind (arith, common_steps, rest, h); lines = λ h. cc (cut_first 10 _ h, line, ap (cut 10 []) rest); law = end_law _ _ }
