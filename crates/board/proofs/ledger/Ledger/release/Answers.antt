use Rattle.std.proofs.Common.{◌≡◌, ◌<◌, length, get_or, sym, refl, ap, ◌∙◌, subst, rules}
use Rattle.book.specs.Balance.{Balanced}
use Rattle.book.specs.Picture.{holdings_of}
use Rattle.book.proofs.Balances.{agrees_coherent, order_figure}
use Rattle.book.proofs.Releases.{release_holds, release_balanced}
use Rattle.board.specs.Drawn.{drawn}
use Rattle.board.specs.declared.ledger.Account.{Account}
use Rattle.board.proofs.Drawings.{log_at, released-drawn}
use Rattle.board.proofs.Ledgers.{balance_of}
use Rattle.board.proofs.ledger.Ledger.release.Goals as goal

pub give_back-requires : goal.give_back-requires
give_back-requires c =
    let p = drawn c.args.self.now in
    record { coherent = λ b n. agrees_coherent (p.marks b).home (p.marks b).copies (λ u. holdings_of p u b) ((balance_of c.args.self.now).agrees b n) }

pub invariant_of-self : goal.invariant_of-self
invariant_of-self c =
    let k = c.args.self.now in
    let t = c.args.thread.number in
    let i = c.index.result in
    let d = c.index-accounts-index.result in
    let l : i < length k.accounts = search rules in
    let a : Account = record { board = (get_or k.accounts i d).board; log = c.give_back.new.self } in
    let after = released-drawn k.blocks c.give_back.new.blocks k.accounts t i a d c.index.ensures.value l c.give_back.ensures.relieved refl c.give_back.ensures.after in
    record { balanced = ∣ subst Balanced (sym after) (release_balanced (drawn k) t (balance_of k) c.args.thread.range) ∣₁ }

pub returns : goal.returns
returns c =
    let k = c.args.self.now in
    let p = drawn k in
    let t = c.args.thread.number in
    let i = c.index.result in
    let d = c.index-accounts-index.result in
    let l : i < length k.accounts = search rules in
    let a : Account = record { board = (get_or k.accounts i d).board; log = c.give_back.new.self } in
    let after = released-drawn k.blocks c.give_back.new.blocks k.accounts t i a d c.index.ensures.value l c.give_back.ensures.relieved refl c.give_back.ensures.after in
    let figure : c.give_back.result ≡ length (p.logs t) = c.give_back.ensures.count ∙ ap length (sym (log_at k.accounts t i d c.index.ensures.value l)) in
    let limits = order_figure p t ((balance_of k).in_order t c.args.thread.range) in
    record {
      answer = figure;
      bounds = (c.args.thread.range, rw figure limits.0, rw figure limits.1);
      after = after;
      held = ap holdings_of after ∙ release_holds p t;
    }
