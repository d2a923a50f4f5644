use Rattle.std.proofs.Common.{ap, refl}
use Rattle.store.specs.States.{ended_of}
use Rattle.store.specs.declared.Call.TheVariants.{Begin, Store, Abort}
use Rattle.examples.proofs.Turns.{led_fresh, next, rightly, led_more, read_back, answers_are, done_refused, begin_granted, store_granted, again_granted, abort_granted, put_back_word}
use Rattle.examples.proofs.jobs.abort_two_stores.Goals as goal

pub returns-in_err-begin : goal.returns-in_err-begin
returns-in_err-begin g c =
    let fresh = led_fresh c.requires c.fresh-store.ensures.book c.fresh-store.ensures.start in
    let one = next (Begin 1) fresh c.begin.ensures.leaves c.begin.ensures.step (begin_granted _) in
    absurd (done_refused c.begin.result _ c.in_err-begin.was one.1)

pub returns-in_err-store : goal.returns-in_err-store
returns-in_err-store g c =
    let fresh = led_fresh c.requires c.fresh-store.ensures.book c.fresh-store.ensures.start in
    let one = next (Begin 1) fresh c.begin.ensures.leaves c.begin.ensures.step (begin_granted _) in
    let two = next (Store 1 3 15) one.0 c.store.ensures.leaves c.store.ensures.step (store_granted _) in
    absurd (done_refused c.store.result _ c.in_err-store.was two.1)

pub returns-in_err-store-2 : goal.returns-in_err-store-2
returns-in_err-store-2 g c =
    let fresh = led_fresh c.requires c.fresh-store.ensures.book c.fresh-store.ensures.start in
    let one = next (Begin 1) fresh c.begin.ensures.leaves c.begin.ensures.step (begin_granted _) in
    let two = next (Store 1 3 15) one.0 c.store.ensures.leaves c.store.ensures.step (store_granted _) in
    let three = next (Store 1 3 20) two.0 c.store-2.ensures.leaves c.store-2.ensures.step (again_granted _) in
    absurd (done_refused c.store-2.result _ c.in_err-store-2.was three.1)

pub returns : goal.returns
returns g c =
    let fresh = led_fresh c.requires c.fresh-store.ensures.book c.fresh-store.ensures.start in
    let one = next (Begin 1) fresh c.begin.ensures.leaves c.begin.ensures.step (begin_granted _) in
    let two = next (Store 1 3 15) one.0 c.store.ensures.leaves c.store.ensures.step (store_granted _) in
    let three = next (Store 1 3 20) two.0 c.store-2.ensures.leaves c.store-2.ensures.step (again_granted _) in
    let ended = abort_granted c.abort.result (rightly _ (Abort 1) (ended_of c.abort.result) three.0 c.abort.ensures.step) in
    let led = led_more (Abort 1) three.0 c.abort.ensures.leaves c.abort.ensures.step (ap ended_of ended.1) in
    let word = put_back_word led in
    let read = read_back g.M.Memory.words c.abort.new.self.memory c.memory.result.now 3 10 c.read.result c.read.ensures.answer c.memory.ensures led.reached.size refl word in
    (ended.0, record { store = c.abort.new.self; led = led; before = refl; after = word; answers = answers_are c.abort.result c.read.result _ _ ended.0 10 c.in_ok-answer.was ended.1 c.in_ok-word.was read })
