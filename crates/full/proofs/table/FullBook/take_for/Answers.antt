use Rattle.std.proofs.Common.{◌≡◌, ◌<◌, Some, None, ◌∙◌, rules}
use Rattle.std.proofs.lemmas.List.{length-set}
use Rattle.std.proofs.lemmas.List.Elements.{All-set, All-get_or}
use Rattle.book.specs.Holdings.{wanted, lowest_in_the_way}
use Rattle.book.proofs.Below.{lowest-only}
use Rattle.book.proofs.Kept.{raise-kept, sound_from}
use Rattle.book.proofs.Takes.{barred, raised, taken-only}
use Rattle.full.specs.Held.{held_in}
use Rattle.full.proofs.Rows.{written}
use Rattle.full.proofs.table.FullBook.take_for.Goals as goal

pub returns-in-Some : goal.returns-in-Some
returns-in-Some c =
    let l : c.args.thread < 16 = search rules in
    let m : c.args.block < 64 = search rules in
    let n : held_in c.args.self.now.rows c.args.thread c.args.block < wanted c.args.take = search rules in
    let u : lowest_in_the_way c.args.take (held_in c.args.self.now.rows) c.args.thread c.args.block ≡ Some c.in-Some.other = search (rules, lowest-only) in
    let (answer, after) = taken-only c.args.take (held_in c.args.self.now.rows) c.args.thread c.args.block (barred c.in-Some.other l m n u) in
    record { answer = cc; after = after }

pub returns : goal.returns
returns c =
    let l : c.args.thread < 16 = search rules in
    let m : c.args.block < 64 = search rules in
    let n : held_in c.args.self.now.rows c.args.thread c.args.block < wanted c.args.take = search rules in
    let free : lowest_in_the_way c.args.take (held_in c.args.self.now.rows) c.args.thread c.args.block ≡ None = search (rules, lowest-only) in
    let (answer, after) = taken-only c.args.take (held_in c.args.self.now.rows) c.args.thread c.args.block (raised l m n free) in
    let w = written c.args.self.now.rows c.args.thread c.args.block (wanted c.args.take) c.index-3.result c.index-4.result c.from.result (search rules) (search rules) c.from.ensures (search rules) (search rules) c.args.self.now.whole in
    record { answer = answer; after = w ∙ after }

pub invariant_of-self : goal.invariant_of-self
invariant_of-self c =
    let free : lowest_in_the_way c.args.take (held_in c.args.self.now.rows) c.args.thread c.args.block ≡ None = search (rules, lowest-only) in
    let w = written c.args.self.now.rows c.args.thread c.args.block (wanted c.args.take) c.index-3.result c.index-4.result c.from.result (search rules) (search rules) c.from.ensures (search rules) (search rules) c.args.self.now.whole in
    record {
      sixteen = search (rules, length-set);
      whole = search (rules, All-set, All-get_or);
      sound = ∣ rw w (raise-kept c.args.take (held_in c.args.self.now.rows) c.args.thread c.args.block (sound_from _ c.args.self.now.sound) free) ∣₁;
    }
