-- The figures of the two books for the two jobs, by the moves that each book promises.
use Rattle.std.proofs.Common.{◌≡◌, ℕ, Bool, true, false, cond, ◌&&◌, List, [], length, Ok, Result, refl, ap, subst, ◌∙◌, nat_lt, nat_eq}
use mathlib.Core.Path.{fun_ext}
use Rattle.fault.specs.declared.Fault.{Fault}
use Rattle.book.specs.Holdings.{Holdings, cleared, first_below, count_below, blocks_held}
use Rattle.book.specs.Marking.{Marking, relieved_picture, release_picture, store_picture, load_picture, one_taken, all_taken, gathered, relieved}
use Rattle.book.specs.Picture.{Marks, Recorded, Picture, fresh_picture, untouched}
use Rattle.book.specs.Rules.{after_load, after_store, after_release}
use Rattle.board.specs.Drawn.{drawn}
use Rattle.board.specs.declared.BoardBook.{BoardBook}
use Rattle.book.specs.Exact.{Exactly}
use Rattle.full.specs.Held.{held_in}
use Rattle.full.specs.declared.table.FullBook.{FullBook}
use Rattle.store.specs.Moved.{Releases, none, more}
use Rattle.store.specs.Promises.{Travelled, start, onward}
use Rattle.examples.specs.declared.jobs.Ended.{Ended}
use Rattle.examples.specs.Jobs.{plain, abort_turns, commit_turns, Aborted, Committed}
use Rattle.examples.specs.Examples.{board_holding, board_moves, full_holding, full_moves, AbortedOnBoard, AbortedOnFull, CommittedOnBoard, CommittedOnFull}

same : {A : Type 0} (b : Bool) (x : A) → cond b x x ≡ x
same {A} b x = elim b as (λ (v : Bool). cond v x x ≡ x) [ true ↦ refl | false ↦ refl ]

nothing_relieved : (b : Bool) (x y : Marks) → cond (b && false) x y ≡ y
nothing_relieved b x y = elim b as (λ (v : Bool). cond (v && false) x y ≡ y) [ true ↦ refl | false ↦ refl ]

drawn_so : (f g : ℕ → Marks) (k l : ℕ → List Recorded) → f ≡ g → k ≡ l → ◌≡◌ {A = Picture} (record { marks = f; seats = λ t. 0; logs = k }) (record { marks = g; seats = λ t. 0; logs = l })
drawn_so f g k l e e' = cc

-- a release that finds nothing leaves a fresh picture
release_fresh : (t : ℕ) → release_picture fresh_picture t ≡ fresh_picture
unfolding relieved_picture
release_fresh t =
    drawn_so _ _ _ _ (fun_ext (λ b. nothing_relieved (nat_lt b 64) (relieved 0 untouched) untouched)) (fun_ext (λ j. same (nat_eq j t) []))

drawn_fresh : {B : Type 0} (d : B → Picture) (first : B) (n : ℕ) (k : B) → Releases (λ k m l. Marking (d k) m (d l)) first n k → d first ≡ fresh_picture → d k ≡ fresh_picture
drawn_fresh d first _ _ none e = e
drawn_fresh d first _ _ (more n k l r before moved) e =
    let p = drawn_fresh d first n k before e in
    moved.1 ∙ ap (λ (q : Picture). cond (nat_lt n 16) (release_picture q n) q) p ∙ ap (λ (q : Picture). cond (nat_lt n 16) q fresh_picture) (release_fresh n) ∙ same (nat_lt n 16) fresh_picture

figure_is : (f n : ℕ) → ◌≡◌ {A = Result ℕ Fault} (Ok f) (Ok n) → f ≡ n
figure_is f n e = cc

-- the token log has one record for the two stores
board_after_stores : {B : Type 0} (d : B → Picture) (holding : B → Holdings) (first last : B) (f : ℕ) → d first ≡ fresh_picture → Travelled holding (λ k m l. Marking (d k) m (d l)) first (abort_turns f) last → f ≡ 1
unfolding all_taken gathered
board_after_stores d holding first last f e (onward _ _ k3 _ (onward _ _ k2 _ (onward _ _ k1 _ (onward _ _ _ _ start begun) once) twice) ended) =
    let p1 : d k1 ≡ fresh_picture = ap d begun.moved ∙ e in
    let p2 : d k2 ≡ store_picture fresh_picture 1 0 = once.moved.1 ∙ ap (λ (p : Picture). store_picture p 1 0) p1 in
    let p3 : d k3 ≡ store_picture (store_picture fresh_picture 1 0) 1 0 = twice.moved.1 ∙ ap (λ (p : Picture). store_picture p 1 0) p2 in
    figure_is f (length ((d k3).logs 1)) ended.moved.0 ∙ ap (λ (p : Picture). length (p.logs 1)) p3

-- and one for the load and one for the store
board_after_load : {B : Type 0} (d : B → Picture) (holding : B → Holdings) (first last : B) (f : ℕ) → d first ≡ fresh_picture → Travelled holding (λ k m l. Marking (d k) m (d l)) first (commit_turns f) last → f ≡ 2
unfolding one_taken all_taken gathered
board_after_load d holding first last f e (onward _ _ k3 _ (onward _ _ k2 _ (onward _ _ k1 _ (onward _ _ _ _ start begun) loaded) stored) ended) =
    let p1 : d k1 ≡ fresh_picture = ap d begun.moved ∙ e in
    let p2 : d k2 ≡ load_picture fresh_picture 1 0 = loaded.moved.1 ∙ ap (λ (p : Picture). load_picture p 1 0) p1 in
    let p3 : d k3 ≡ store_picture (load_picture fresh_picture 1 0) 1 0 = stored.moved.1 ∙ ap (λ (p : Picture). store_picture p 1 0) p2 in
    figure_is f (length ((d k3).logs 1)) ended.moved.0 ∙ ap (λ (p : Picture). length (p.logs 1)) p3

nobody : Holdings
nobody = λ t b. 0

cleared_nobody : (t : ℕ) → cleared nobody t ≡ nobody
unfolding nobody
cleared_nobody t = fun_ext (λ u. fun_ext (λ c. same (nat_eq u t) 0))

held_fresh : {B : Type 0} (h : B → Holdings) (first : B) (n : ℕ) (k : B) → Releases (λ k m l. Exactly (h k) m (h l)) first n k → h first ≡ nobody → h k ≡ nobody
held_fresh h first _ _ none e = e
held_fresh h first _ _ (more n k l r before moved) e =
    let p = held_fresh h first n k before e in
    moved.1 ∙ ap (λ (q : Holdings). after_release q n) p ∙ ap (λ (q : Holdings). cond (nat_lt n 16) q nobody) (cleared_nobody n) ∙ same (nat_lt n 16) nobody

-- the full book counts the one block in both
full_after_stores : {B : Type 0} (h holding : B → Holdings) (first last : B) (f : ℕ) → h first ≡ nobody → Travelled holding (λ k m l. Exactly (h k) m (h l)) first (abort_turns f) last → f ≡ 1
unfolding nobody first_below count_below
full_after_stores h holding first last f e (onward _ _ k3 _ (onward _ _ k2 _ (onward _ _ k1 _ (onward _ _ _ _ start begun) once) twice) ended) =
    let p1 : h k1 ≡ nobody = ap h begun.moved ∙ e in
    let p2 : h k2 ≡ after_store nobody 1 0 = once.moved.1 ∙ ap (λ (p : Holdings). after_store p 1 0) p1 in
    let p3 : h k3 ≡ after_store (after_store nobody 1 0) 1 0 = twice.moved.1 ∙ ap (λ (p : Holdings). after_store p 1 0) p2 in
    figure_is f (blocks_held (h k3) 1) ended.moved.0 ∙ ap (λ (p : Holdings). blocks_held p 1) p3

full_after_load : {B : Type 0} (h holding : B → Holdings) (first last : B) (f : ℕ) → h first ≡ nobody → Travelled holding (λ k m l. Exactly (h k) m (h l)) first (commit_turns f) last → f ≡ 1
unfolding nobody first_below count_below
full_after_load h holding first last f e (onward _ _ k3 _ (onward _ _ k2 _ (onward _ _ k1 _ (onward _ _ _ _ start begun) loaded) stored) ended) =
    let p1 : h k1 ≡ nobody = ap h begun.moved ∙ e in
    let p2 : h k2 ≡ after_load nobody 1 0 = loaded.moved.1 ∙ ap (λ (p : Holdings). after_load p 1 0) p1 in
    let p3 : h k3 ≡ after_store (after_load nobody 1 0) 1 0 = stored.moved.1 ∙ ap (λ (p : Holdings). after_store p 1 0) p2 in
    figure_is f (blocks_held (h k3) 1) ended.moved.0 ∙ ap (λ (p : Holdings). blocks_held p 1) p3

module _ (r : Result Ended Fault) where
  pub aborted_on_board : (book : BoardBook) → drawn book.ledger ≡ fresh_picture → ((f : ℕ) × Aborted plain board_holding board_moves book f r) → AbortedOnBoard 1 r
  aborted_on_board book e s =
      let d : BoardBook → Picture = λ k. drawn k.ledger in
      let led = s.1.led in
      let figure = board_after_stores d board_holding led.first s.1.store.book s.0 (drawn_fresh d book 16 led.first led.released e) led.travelled in
      (book, e, subst (λ (f : ℕ). Aborted plain board_holding board_moves book f r) figure s.1)

  pub committed_on_board : (book : BoardBook) → drawn book.ledger ≡ fresh_picture → ((f : ℕ) × Committed plain board_holding board_moves book f r) → CommittedOnBoard 2 r
  committed_on_board book e s =
      let d : BoardBook → Picture = λ k. drawn k.ledger in
      let led = s.1.led in
      let figure = board_after_load d board_holding led.first s.1.store.book s.0 (drawn_fresh d book 16 led.first led.released e) led.travelled in
      (book, e, subst (λ (f : ℕ). Committed plain board_holding board_moves book f r) figure s.1)

  pub aborted_on_full : (book : FullBook) → held_in book.rows ≡ (λ t b. 0) → ((f : ℕ) × Aborted plain full_holding full_moves book f r) → AbortedOnFull 1 r
  unfolding nobody
  aborted_on_full book e s =
      let led = s.1.led in
      let figure = full_after_stores full_holding full_holding led.first s.1.store.book s.0 (held_fresh full_holding book 16 led.first led.released e) led.travelled in
      (book, e, subst (λ (f : ℕ). Aborted plain full_holding full_moves book f r) figure s.1)

  pub committed_on_full : (book : FullBook) → held_in book.rows ≡ (λ t b. 0) → ((f : ℕ) × Committed plain full_holding full_moves book f r) → CommittedOnFull 1 r
  unfolding nobody
  committed_on_full book e s =
      let led = s.1.led in
      let figure = full_after_load full_holding full_holding led.first s.1.store.book s.0 (held_fresh full_holding book 16 led.first led.released e) led.travelled in
      (book, e, subst (λ (f : ℕ). Committed plain full_holding full_moves book f r) figure s.1)
