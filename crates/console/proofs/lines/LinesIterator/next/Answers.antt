use Rattle.std.proofs.Common.{◌≡◌, [], ap, true-eqb}
use Rattle.std.proofs.lemmas.List.{nil_from_length}
use Rattle.script.specs.Pieces.{lines_of, cut}
use Rattle.console.proofs.lines.LinesIterator.next.Goals as goal

pub returns-then-is_empty-clause-steps : goal.returns-then-is_empty-clause-steps
unfolding cut
returns-then-is_empty-clause-steps c =
    let none : lines_of c.args.self.now.rest.now ≡ [] = ap lines_of (nil_from_length c.args.self.now.rest.now (true-eqb _ 0 c.if-is_empty.ensures)) in
    (none, none)
