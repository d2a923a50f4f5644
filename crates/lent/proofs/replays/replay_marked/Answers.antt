use Rattle.store.proofs.Tokens.{tokens_shown}
use Rattle.lent.proofs.replays.replay_marked.Goals as goal

pub returns : goal.returns
returns g c =
    let done = c.replay.ensures in
    record {
      memory = done.memory;
      store = done.store;
      turns = done.turns;
      lent = done.lent;
      kept = record {
        replayed = done.kept;
        tokens = λ b l. tokens_shown (g.B.Marked.picture done.store.book) (g.B.Book.holding done.store.book) done.kept.history (g.met.B.Book.sound done.store.book) (g.met.B.Marked.shows done.store.book) done.kept.promised.held b l;
      };
      given_back = done.given_back;
      counted = done.counted;
      answered = done.answered;
    }
