use Rattle.std.proofs.Common.{[], ap, ◌∙◌}
use Rattle.store.specs.States.{state_of}
use Rattle.store.specs.Promises.{start}
use Rattle.store.proofs.Promised.{promised}
use Rattle.store.proofs.Tokens.{tokens_shown}
use Rattle.console.specs.Runs.{turns_from}
use Rattle.console.proofs.run_fresh.Goals as goal

pub returns : goal.returns
returns g c =
    let words = g.M.Memory.words in
    let holding = g.B.Book.holding in
    let first = c.fresh-store.result in
    let last = c.run-ran.new.store in
    let fresh = c.fresh-store.ensures in
    let told = c.run-ran.ensures in
    let turns = turns_from [] told.entries in
    let reached = told.carried (words c.args.memory) [] fresh.start in
    let kept = promised (words c.args.memory) turns (state_of words holding last) reached in
    record {
      start = first;
      memory_is = fresh.memory;
      released = fresh.book;
      reported = told;
      promised = kept;
      travelled = told.travelled (words c.args.memory) [] first.book fresh.start start;
      tokens = λ b l. tokens_shown (g.B.Marked.picture last.book) (holding last.book) turns (g.met.B.Book.sound last.book) (g.met.B.Marked.shows last.book) kept.held b l;
      untouched = told.untouched ∙ ap g.M.Memory.beyond fresh.memory;
    }
