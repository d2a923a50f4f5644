use Rattle.std.proofs.Common.{◌≡◌, ◌<◌, get_or, Ok, Err, rules}
use Rattle.std.proofs.lemmas.List.{get_or_default}
use Rattle.further.specs.declared.holders.Holders.TheVariants.{Readers}
use Rattle.further.specs.Held.{TakenBy}
use Rattle.further.proofs.Blocks.{refused, taken}
use Rattle.further.proofs.holder_book.HolderBook.take_for.Goals as goal

pub returns-in_err-self : goal.returns-in_err-self
returns-in_err-self c =
    let below : c.args.block < 64 = search rules in
    let thread : c.in_ok-thread.thread.number ≡ c.args.thread = search rules in
    let place : c.index-at.result ≡ c.args.block = search rules in
    let e : c.index-self-at.result ≡ get_or c.args.self.now.blocks c.args.block (Readers 0) = search (rules, get_or_default) in
    let t : TakenBy c.args.take (get_or c.args.self.now.blocks c.args.block (Readers 0)) c.args.thread (Err c.in_err-self.field-0.0) = search rules in
    let (answer, after) = refused c.args.take c.args.self.now.blocks c.args.thread c.args.block below c.args.self.now.whole c.in_err-self.field-0.0 t in
    record { answer = search rules; after = after }

pub returns-clause-after : goal.returns-clause-after
returns-clause-after c =
    let below : c.args.block < 64 = search rules in
    let thread : c.in_ok-thread.thread.number ≡ c.args.thread = search rules in
    let place : c.index-at.result ≡ c.args.block = search rules in
    let e : c.index-self-at.result ≡ get_or c.args.self.now.blocks c.args.block (Readers 0) = search (rules, get_or_default) in
    let t : TakenBy c.args.take (get_or c.args.self.now.blocks c.args.block (Readers 0)) c.args.thread (Ok c.in_ok-self.field-0) = search rules in
    let (answer, after) = taken c.args.take c.args.self.now.blocks c.args.thread c.args.block below c.args.self.now.whole c.in_ok-self.field-0 t in
    rw place after
