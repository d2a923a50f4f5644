use Rattle.std.proofs.Common.{◌≡◌, ℕ, cond, eqb, ◌+◌, ◌<◌, [], ◌∷◌, ◌++◌, map, length, get_or, take, drop, sym, ap, ◌∙◌, subst, rules}
use Rattle.std.proofs.lemmas.List.{map_more, map-append, get_or-map, take_all, take-append-drop, drop_more}
use Rattle.marks.specs.declared.counts.Count.{Count}
use Rattle.marks.specs.declared.counts.Logged.{Logged}
use Rattle.book.specs.Balance.{Coherent}
use Rattle.book.specs.Marking.{set_at, relieved}
use Rattle.book.specs.Picture.{Marks, credit_of, untouched}
use Rattle.board.specs.Credits.{recorded, credits_in, tokens_of}
use Rattle.board.specs.Shown.{marks_of, marks_in}
use Rattle.board.proofs.Drawings.{at_set, block_at}
use Rattle.board.proofs.Releases.{relieved_by, left_by, relieved_gathered, relieved_now, relieved_before, left_now, left_before, credit_there, relieved_not_yet}
use Rattle.board.proofs.tokens.relieve.Goals as goal
use Rattle.board.proofs.tokens.relieve.Goals.{then-tokens-gt0, else-tokens-gt0}

pub gather-requires : goal.gather-requires
gather-requires c =
    let items = c.records-record-items.result.now in
    let b = c.record-item.result.block.number in
    let i = c.index-place.result in
    let k = get_or c.each.blocks i c.index-blocks-place.result in
    let marks = marks_in c.args.blocks.now in
    let seen = map recorded (take c.each.record-index items) in
    let log = map recorded items in
    let m : i < length c.each.blocks = search rules in
    let n : i < length c.each.credits = search rules in
    let none : Count Logged = record { tokens = 0; side = record {} } in
    let credit : (get_or c.each.credits i none).tokens ≡ left_by seen log b = sym (get_or-map tokens_of c.each.credits i none 0 n) ∙ ap (credits_in c.each.credits) c.index-place.ensures.value ∙ c.each.invariant.2 b in
    let left : 0 < left_by seen log b = search rules in
    let there : marks_of k ≡ marks b = sym (block_at c.each.blocks b i c.index-blocks-place.result c.index-place.ensures.value m) ∙ ap (λ f. f b) c.each.invariant.1 ∙ relieved_not_yet marks seen log b left in
    subst (λ (k : Marks). Coherent k.home k.copies) (sym there) (c.requires.coherent b c.record-item.result.block.range)

pub each-preserved : goal.each-preserved
each-preserved c =
    let items = c.records-record-items.result.now in
    let b = c.record-item.result.block.number in
    let n = c.record-item.result.count.tokens in
    let i = c.index-place.result in
    let marks = marks_in c.args.blocks.now in
    let seen = map recorded (take c.each.record-index items) in
    let log = map recorded items in
    let l : c.each.record-index < length items = search rules in
    let m : i < length c.each.credits = search rules in
    let none : Count Logged = record { tokens = 0; side = record {} } in
    let credit : (get_or c.each.credits i none).tokens ≡ left_by seen log b = sym (get_or-map tokens_of c.each.credits i none 0 m) ∙ ap (credits_in c.each.credits) c.index-place.ensures.value ∙ c.each.invariant.2 b in
    let more : seen ++ record { block = b; count = n } ∷ [] ≡ map recorded (take (c.each.record-index + 1) items) = ap (λ r. seen ++ recorded r ∷ []) c.record-item.is ∙ sym (map_more recorded items c.each.record-index _ l) in
    let place = c.index-place.ensures.value in
    elim c.if-tokens-gt0.branch [
      | then-tokens-gt0 w ↦
          let mb : i < length c.each.blocks = search rules in
          let left : 0 < left_by seen log b = search rules in
          let there = sym (block_at c.each.blocks b i w.index-blocks-place.result place mb) in
          let relieves : marks_of w.relieve.new.self ≡ relieved (left_by seen log b) (marks_in c.each.blocks b) = relieved_gathered _ _ _ _ w.gather.ensures w.relieve.ensures.home w.relieve.ensures.copies ∙ ap (relieved (get_or c.each.credits i none).tokens) there ∙ ap (λ u. relieved u (marks_in c.each.blocks b)) credit in
          let blocks = ap marks_in w.blocks-is
          ∙ at_set marks_of c.each.blocks i w.relieve.new.self untouched mb
          ∙ ap (λ j. set_at (marks_in c.each.blocks) j (marks_of w.relieve.new.self)) place
          ∙ ap (set_at (marks_in c.each.blocks) b) relieves
          ∙ ap (λ before. set_at before b (relieved (left_by seen log b) (before b))) c.each.invariant.1
          ∙ relieved_now marks seen log b n c.record-item.result.block.range c.record-item.result.some left
          ∙ ap (λ s. relieved_by s log marks) more in
          let credits : (u : ℕ) → credits_in c.if-tokens-gt0.credits u ≡ left_by (map recorded (take (c.each.record-index + 1) items)) log u = λ u.
          ap (λ cs. credits_in cs u) w.credits-is
          ∙ ap (λ f. f u) (at_set tokens_of c.each.credits i w.none.result 0 m)
          ∙ ap (λ j. set_at (credits_in c.each.credits) j (tokens_of w.none.result) u) place
          ∙ ap (λ z. set_at (credits_in c.each.credits) b z u) w.none.ensures
          ∙ ap (λ z. cond (eqb u b) 0 z) (c.each.invariant.2 u)
          ∙ left_now seen log b n u c.record-item.result.some
          ∙ ap (λ s. left_by s log u) more in
          (search rules, blocks, credits)
      | else-tokens-gt0 w ↦
          let none_left : left_by seen log b ≡ 0 = search rules in
          let rest = map recorded (drop (c.each.record-index + 1) items) in
          let whole : log ≡ seen ++ record { block = b; count = n } ∷ rest =
          ap (map recorded) (sym (take-append-drop c.each.record-index items) ∙ ap (λ rs. take c.each.record-index items ++ rs) (drop_more items c.each.record-index c.record-item.result l ∙ ap (λ r. r ∷ drop (c.each.record-index + 1) items) (sym c.record-item.is)))
          ∙ map-append recorded (take c.each.record-index items) (c.record-item.result ∷ drop (c.each.record-index + 1) items) in
          let held : 0 < credit_of b log = subst (λ rs. 0 < credit_of b rs) (sym whole) (credit_there seen rest (record { block = b; count = n }) c.record-item.result.some) in
          let blocks = ap marks_in w.blocks-is ∙ c.each.invariant.1 ∙ relieved_before marks seen log b n c.record-item.result.block.range c.record-item.result.some held none_left ∙ ap (λ s. relieved_by s log marks) more in
          let credits : (u : ℕ) → credits_in c.if-tokens-gt0.credits u ≡ left_by (map recorded (take (c.each.record-index + 1) items)) log u = λ u.
          ap (λ cs. credits_in cs u) w.credits-is
          ∙ c.each.invariant.2 u
          ∙ left_before seen log b n u c.record-item.result.some none_left
          ∙ ap (λ s. left_by s log u) more in
          (search rules, blocks, credits)
    ]

pub returns-clause-marks : goal.returns-clause-marks
returns-clause-marks c =
    let items = c.records-record-items.result.now in
    let all : take c.each.record-index items ≡ items = take_all c.each.record-index items (search rules) in
    c.each.invariant.1
    ∙ ap (λ rs. relieved_by (map recorded rs) (map recorded items) (marks_in c.args.blocks.now)) all
    ∙ ap (λ rs. relieved_by (map recorded rs) (map recorded rs) (marks_in c.args.blocks.now)) c.records-record-items.ensures.value
