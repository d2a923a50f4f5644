use Rattle.std.proofs.Common.{◌≡◌, ◌<◌, true, false, length, get_or, Err, sym, refl, ap, ◌∙◌, subst, rules, arith}
use Rattle.book.specs.Balance.{Balanced}
use Rattle.book.specs.Holdings.{is_in_the_way}
use Rattle.book.specs.Picture.{credit_of, holdings_of}
use Rattle.board.specs.Tables.{log_of}
use Rattle.book.specs.declared.Take.TheVariants.{Store}
use Rattle.book.proofs.Below.{lowest-only}
use Rattle.board.specs.Drawn.{drawn}
use Rattle.board.specs.declared.ledger.Account.{Account}
use Rattle.board.proofs.Drawings.{block_at, log_at}
use Rattle.board.proofs.Ledgers.{stores_in}
use Rattle.board.proofs.Takes.{Storing, storing, store_own, store_apart, store_refused_drawn, store_granted_drawn, some_lowest}
use Rattle.board.proofs.ledger.Ledger.take_all.Goals as goal

pub gather-requires : goal.gather-requires
gather-requires c =
    let k = c.args.self.now in
    let t = c.args.thread.number in
    let b = c.args.block.number in
    let m : c.index.result < length k.blocks = search rules in
    let w = stores_in k c.args.thread c.args.block c.args.credit.tokens c.requires.own c.requires.short in
    rw (block_at k.blocks b c.index.result c.index-blocks-index.result c.index.ensures.value m) at w.coherent

pub note-requires : goal.note-requires
note-requires c =
    let k = c.args.self.now in
    let t = c.args.thread.number in
    let b = c.args.block.number in
    let l : c.index-then-store.result < length k.accounts = search rules in
    let w = stores_in k c.args.thread c.args.block c.args.credit.tokens c.requires.own c.requires.short in
    let here = log_at k.accounts t c.index-then-store.result c.index-accounts-index.result c.index-then-store.ensures.value l in
    let own : credit_of b (log_of (get_or k.accounts c.index-then-store.result c.index-accounts-index.result)) ≡ c.args.credit.tokens = ap (credit_of b) (sym here) ∙ sym c.requires.own in
    let short = c.requires.short in
    let rest = c.rest.ensures in
    record {
      room = rw here at w.room;
      some = search rules;
      limit = omega arith;
    }

pub invariant_of-self : goal.invariant_of-self
invariant_of-self c =
    let k = c.args.self.now in
    let t = c.args.thread.number in
    let b = c.args.block.number in
    let i = c.index-then-store.result in
    let e = c.index-accounts-index.result in
    let l : i < length k.accounts = search rules in
    let m : c.index.result < length k.blocks = search rules in
    let w = stores_in k c.args.thread c.args.block c.args.credit.tokens c.requires.own c.requires.short in
    let s : Storing k.blocks k.accounts t b _ c.gather.new.self c.store.new.self _ _ true = storing c.index.ensures.value m c.gather.ensures c.if-store.ensures.after c.if-store.ensures.answer c.requires.own in
    let a : Account = record { board = (get_or k.accounts i e).board; log = c.note.new.self } in
    let after = store_granted_drawn a e s c.index-then-store.ensures.value l refl c.rest.ensures refl c.note.ensures in
    record { balanced = ∣ subst Balanced (sym after) w.kept ∣₁ }

pub returns-then-store : goal.returns-then-store
returns-then-store c =
    let k = c.args.self.now in
    let t = c.args.thread.number in
    let b = c.args.block.number in
    let i = c.index-then-store.result in
    let e = c.index-accounts-index.result in
    let l : i < length k.accounts = search rules in
    let m : c.index.result < length k.blocks = search rules in
    let w = stores_in k c.args.thread c.args.block c.args.credit.tokens c.requires.own c.requires.short in
    let s : Storing k.blocks k.accounts t b _ c.gather.new.self c.store.new.self _ _ true = storing c.index.ensures.value m c.gather.ensures c.if-store.ensures.after c.if-store.ensures.answer c.requires.own in
    let a : Account = record { board = (get_or k.accounts i e).board; log = c.note.new.self } in
    record {
      answer = w.grants (store_own s);
      after = store_granted_drawn a e s c.index-then-store.ensures.value l refl c.rest.ensures refl c.note.ensures;
    }

pub invariant_of-self-else-store : goal.invariant_of-self-else-store
invariant_of-self-else-store c =
    let k = c.args.self.now in
    let t = c.args.thread.number in
    let b = c.args.block.number in
    let m : c.index.result < length k.blocks = search rules in
    let w = stores_in k c.args.thread c.args.block c.args.credit.tokens c.requires.own c.requires.short in
    let s : Storing k.blocks k.accounts t b _ c.gather.new.self c.store.new.self _ _ false = storing c.index.ensures.value m c.gather.ensures c.if-store.ensures.after c.if-store.ensures.answer c.requires.own in
    let after = store_refused_drawn s in
    record { balanced = ∣ subst Balanced (sym after) w.kept ∣₁ }

pub unwrap-requires : goal.unwrap-requires
unwrap-requires c =
    let k = c.args.self.now in
    let t = c.args.thread.number in
    let b = c.args.block.number in
    let m : c.index.result < length k.blocks = search rules in
    let w = stores_in k c.args.thread c.args.block c.args.credit.tokens c.requires.own c.requires.short in
    let s : Storing k.blocks k.accounts t b _ c.gather.new.self c.store.new.self _ _ false = storing c.index.ensures.value m c.gather.ensures c.if-store.ensures.after c.if-store.ensures.answer c.requires.own in
    let apart = store_apart s in
    some_lowest (is_in_the_way Store (holdings_of (drawn k)) t b) 16 c.other_holder.result (w.other apart) c.other_holder.ensures

pub returns : goal.returns
returns c =
    let k = c.args.self.now in
    let t = c.args.thread.number in
    let b = c.args.block.number in
    let m : c.index.result < length k.blocks = search rules in
    let w = stores_in k c.args.thread c.args.block c.args.credit.tokens c.requires.own c.requires.short in
    let s : Storing k.blocks k.accounts t b _ c.gather.new.self c.store.new.self _ _ false = storing c.index.ensures.value m c.gather.ensures c.if-store.ensures.after c.if-store.ensures.answer c.requires.own in
    let apart = store_apart s in
    let named = lowest-only (is_in_the_way Store (holdings_of (drawn k)) t b) 16 c.other_holder.result c.other_holder.ensures ∙ c.unwrap.ensures in
    record {
      answer = ap Err c.refused_by.ensures ∙ w.refuses c.unwrap.result apart named;
      after = store_refused_drawn s;
    }
