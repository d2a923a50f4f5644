use Rattle.std.proofs.Common.{◌≡◌, ◌<◌, ◌^◌, length, ap, ◌∙◌, arith, rules, tests}
use Rattle.std.proofs.lemmas.Iterator.{YieldsList-from_slice}
use Rattle.std.proofs.lemmas.Iterator.Adapters.{fits_from_length, at_most_from_yields_List}
use Rattle.std.proofs.lemmas.List.{length-set}
use Rattle.std.proofs.lemmas.List.Elements.{All-set}
use Rattle.book.specs.Holdings.{cleared}
use Rattle.book.proofs.Kept.{sound_from}
use Rattle.full.specs.Held.{held_in}
use Rattle.full.proofs.Rows.{emptied, emptied_sound, counted}
use Rattle.full.proofs.table.FullBook.clear.Goals as goal

-- a row has 64 cells, and each counts for one at most
pub sum-requires-clause-fits : goal.sum-requires-clause-fits
sum-requires-clause-fits c =
    let whole : length c.replace-row.result ≡ 64 = search rules in
    fits_from_length _ _ 64 (2 ^ 64)
    (at_most_from_yields_List (YieldsList-from_slice c.replace-row.result cc) (omega arith))
    c.map.ensures.closure (omega arith) (λ x r q k. search (rules, tests))

pub returns-clause-after : goal.returns-clause-after
returns-clause-after c =
    let l : c.index.result < length c.args.self.now.rows = search rules in
    rw c.replace-row.ensures.after (emptied c.args.self.now.rows c.index.result 64 l ∙ ap (cleared (held_in c.args.self.now.rows)) c.index.ensures.value)

pub returns-clause-answer : goal.returns-clause-answer
returns-clause-answer c = search (rules, counted)

pub invariant_of-self : goal.invariant_of-self
invariant_of-self c =
    let l : c.index.result < length c.args.self.now.rows = search rules in
    record {
      sixteen = search (rules, length-set);
      whole = search (rules, All-set);
      sound = ∣ rw c.replace-row.ensures.after (emptied_sound c.args.self.now.rows c.index.result 64 l (sound_from _ c.args.self.now.sound)) ∣₁;
    }
