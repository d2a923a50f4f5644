use Rattle.std.proofs.Common.{ap, refl}
use Rattle.store.specs.States.{ended_of}
use Rattle.store.specs.declared.Call.TheVariants.{Begin, Load, Store, Commit}
use Rattle.examples.proofs.Turns.{led_fresh, next, rightly, led_more, read_back, answers_are, done_refused, word_refused, begin_granted, load_granted, own_granted, commit_granted, stored_word}
use Rattle.examples.proofs.jobs.commit_load_and_store.Goals as goal

pub returns-in_err-begin : goal.returns-in_err-begin
returns-in_err-begin g c =
    let fresh = led_fresh c.requires c.fresh-store.ensures.book c.fresh-store.ensures.start in
    let one = next (Begin 1) fresh c.begin.ensures.leaves c.begin.ensures.step (begin_granted _) in
    absurd (done_refused c.begin.result _ c.in_err-begin.was one.1)

pub returns-in_err-load : goal.returns-in_err-load
returns-in_err-load g c =
    let fresh = led_fresh c.requires c.fresh-store.ensures.book c.fresh-store.ensures.start in
    let one = next (Begin 1) fresh c.begin.ensures.leaves c.begin.ensures.step (begin_granted _) in
    let two = next (Load 1 0) one.0 c.load.ensures.leaves c.load.ensures.step (load_granted _) in
    absurd (word_refused c.load.result _ 7 c.in_err-load.was two.1)

pub returns-in_err-store : goal.returns-in_err-store
returns-in_err-store g c =
    let fresh = led_fresh c.requires c.fresh-store.ensures.book c.fresh-store.ensures.start in
    let one = next (Begin 1) fresh c.begin.ensures.leaves c.begin.ensures.step (begin_granted _) in
    let two = next (Load 1 0) one.0 c.load.ensures.leaves c.load.ensures.step (load_granted _) in
    let three = next (Store 1 0 11) two.0 c.store.ensures.leaves c.store.ensures.step (own_granted _) in
    absurd (done_refused c.store.result _ c.in_err-store.was three.1)

pub returns : goal.returns
returns g c =
    let fresh = led_fresh c.requires c.fresh-store.ensures.book c.fresh-store.ensures.start in
    let one = next (Begin 1) fresh c.begin.ensures.leaves c.begin.ensures.step (begin_granted _) in
    let two = next (Load 1 0) one.0 c.load.ensures.leaves c.load.ensures.step (load_granted _) in
    let three = next (Store 1 0 11) two.0 c.store.ensures.leaves c.store.ensures.step (own_granted _) in
    let ended = commit_granted c.commit.result (rightly _ (Commit 1) (ended_of c.commit.result) three.0 c.commit.ensures.step) in
    let led = led_more (Commit 1) three.0 c.commit.ensures.leaves c.commit.ensures.step (ap ended_of ended.1) in
    let word = stored_word led in
    let read = read_back g.M.Memory.words c.commit.new.self.memory c.memory.result.now 0 11 c.read.result c.read.ensures.answer c.memory.ensures led.reached.size refl word in
    (ended.0, record { store = c.commit.new.self; led = led; after = word; answers = answers_are c.commit.result c.read.result _ _ ended.0 11 c.in_ok-answer.was ended.1 c.in_ok-word.was read })
