use Rattle.std.proofs.Common.{◌≡◌, ◌<◌, length, get_or, Ok, Err, sym, refl, ap, ◌∙◌, subst, rules, arith}
use Rattle.std.proofs.lemmas.Result.{err_from_is_err_and}
use Rattle.book.specs.Balance.{Balanced}
use Rattle.book.specs.Marking.{copy_or_split, load_answer}
use Rattle.board.specs.Shown.{marks_of}
use Rattle.book.specs.Picture.{credit_of}
use Rattle.board.specs.Tables.{seat_of, log_of}
use Rattle.board.specs.declared.ledger.Account.{Account}
use Rattle.board.proofs.Drawings.{block_at, seat_at, log_at}
use Rattle.board.proofs.Ledgers.{loads_in}
use Rattle.board.proofs.Takes.{Loading, loading, load_refused_drawn, load_granted_drawn}
use Rattle.board.proofs.ledger.Ledger.take_one.Goals as goal

pub load-requires : goal.load-requires
load-requires c =
    let k = c.args.self.now in
    let t = c.args.thread.number in
    let b = c.args.block.number in
    let l : c.index.result < length k.accounts = search rules in
    let m : c.index-2.result < length k.blocks = search rules in
    let here = block_at k.blocks b c.index-2.result c.index-blocks-index.result c.index-2.ensures.value m in
    let sits = seat_at k.accounts t c.index.result c.index-accounts-index.result c.index.ensures.value l in
    rw (here, sits) at (loads_in k c.args.thread c.args.block c.requires).range

pub invariant_of-self : goal.invariant_of-self
invariant_of-self c =
    let k = c.args.self.now in
    let t = c.args.thread.number in
    let b = c.args.block.number in
    let l : c.index.result < length k.accounts = search rules in
    let m : c.index-2.result < length k.blocks = search rules in
    let w : Loading k.blocks k.accounts t b _ _ _ _ _ = loading c.index.ensures.value l c.index-2.ensures.value m c.load.ensures.after in
    let after = load_refused_drawn w (sym c.load.ensures.answer ∙ c.in_err-load.was) in
    record { balanced = ∣ subst Balanced (sym after) (loads_in k c.args.thread c.args.block c.requires).kept ∣₁ }

pub returns-in_err-load : goal.returns-in_err-load
returns-in_err-load c =
    let k = c.args.self.now in
    let t = c.args.thread.number in
    let b = c.args.block.number in
    let l : c.index.result < length k.accounts = search rules in
    let m : c.index-2.result < length k.blocks = search rules in
    let here = block_at k.blocks b c.index-2.result c.index-blocks-index.result c.index-2.ensures.value m in
    let sits = seat_at k.accounts t c.index.result c.index-accounts-index.result c.index.ensures.value l in
    let w : Loading k.blocks k.accounts t b _ _ _ _ _ = loading c.index.ensures.value l c.index-2.ensures.value m c.load.ensures.after in
    let p = err_from_is_err_and c.from_residual.result c.from_residual.ensures.1 in
    let answered : load_answer (copy_or_split (marks_of (get_or k.blocks c.index-2.result c.index-blocks-index.result)) (seat_of (get_or k.accounts c.index.result c.index-accounts-index.result))) ≡ Err c.in_err-load.field-0.0 = sym c.load.ensures.answer ∙ c.in_err-load.was in
    record {
      answer = rw (p.1, p.2) (sym answered ∙ (rw (here, sits) at (loads_in k c.args.thread c.args.block c.requires).answer));
      after = load_refused_drawn w answered;
    }

pub note-requires : goal.note-requires
note-requires c =
    let k = c.args.self.now in
    let t = c.args.thread.number in
    let b = c.args.block.number in
    let l : c.index.result < length k.accounts = search rules in
    let here = log_at k.accounts t c.index.result c.index-accounts-index.result c.index.ensures.value l in
    let none : credit_of b (log_of (get_or k.accounts c.index.result c.index-accounts-index.result)) ≡ 0 = ap (credit_of b) (sym here) ∙ c.requires in
    let one = c.one.ensures in
    record {
      room = rw here at (loads_in k c.args.thread c.args.block c.requires).room;
      some = search rules;
      limit = omega arith;
    }

pub invariant_of-self-2 : goal.invariant_of-self-2
invariant_of-self-2 c =
    let k = c.args.self.now in
    let t = c.args.thread.number in
    let b = c.args.block.number in
    let l : c.index.result < length k.accounts = search rules in
    let m : c.index-2.result < length k.blocks = search rules in
    let w : Loading k.blocks k.accounts t b _ _ _ _ _ = loading c.index.ensures.value l c.index-2.ensures.value m c.load.ensures.after in
    let a : Account = record { board = (get_or k.accounts c.index.result c.index-accounts-index.result).board; log = c.note.new.self } in
    let after = load_granted_drawn a w (sym c.load.ensures.answer ∙ c.in_ok-load.was) refl c.one.ensures refl c.note.ensures in
    record { balanced = ∣ subst Balanced (sym after) (loads_in k c.args.thread c.args.block c.requires).kept ∣₁ }

pub returns : goal.returns
returns c =
    let k = c.args.self.now in
    let t = c.args.thread.number in
    let b = c.args.block.number in
    let l : c.index.result < length k.accounts = search rules in
    let m : c.index-2.result < length k.blocks = search rules in
    let here = block_at k.blocks b c.index-2.result c.index-blocks-index.result c.index-2.ensures.value m in
    let sits = seat_at k.accounts t c.index.result c.index-accounts-index.result c.index.ensures.value l in
    let w : Loading k.blocks k.accounts t b _ _ _ _ _ = loading c.index.ensures.value l c.index-2.ensures.value m c.load.ensures.after in
    let a : Account = record { board = (get_or k.accounts c.index.result c.index-accounts-index.result).board; log = c.note.new.self } in
    let answered : load_answer (copy_or_split (marks_of (get_or k.blocks c.index-2.result c.index-blocks-index.result)) (seat_of (get_or k.accounts c.index.result c.index-accounts-index.result))) ≡ Ok c.in_ok-load.field-0 = sym c.load.ensures.answer ∙ c.in_ok-load.was in
    record {
      answer = sym answered ∙ (rw (here, sits) at (loads_in k c.args.thread c.args.block c.requires).answer);
      after = load_granted_drawn a w answered refl c.one.ensures refl c.note.ensures;
    }
