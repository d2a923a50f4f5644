-- How a picture follows the ledger's arrays.
use Rattle.std.proofs.Common.{◌≡◌, ℕ, zero, suc, ◌<◌, List, [], ◌∷◌, ◌++◌, map, length, get_or, set, replicate, sym, refl, ap, ◌∙◌, ⊎_elim}
use mathlib.Core.Path.{fun_ext}
use Rattle.std.proofs.Math.Seq.{map-set_same}
use Rattle.std.proofs.lemmas.List.{length-map, get_or-map, map-set, get_or-set_same, get_or-set_other}
use Rattle.std.proofs.lemmas.Bool.{cases_eq, eq-eqb, ne_eqb}
use Rattle.book.specs.Marking.{set_at, marked, logged, noted, relieved_to, relieved_picture, seat_picture, release_picture}
use Rattle.book.specs.Picture.{Marks, Recorded, untouched, fresh_picture}
use Rattle.board.specs.Shown.{marks_of, marks_in}
use Rattle.board.specs.Tables.{seat_of, seats_in, log_of, logs_in, picture_of}
use Rattle.board.specs.declared.block.Block.{Block}
use Rattle.board.specs.declared.ledger.Account.{Account}

-- one element replaced
pub at_set : {X Y : Type 0} (f : X → Y) (xs : List X) (i : ℕ) (x : X) (d : Y) → i < length xs → ◌≡◌ {A = ℕ → Y} (λ j. get_or (map f (set xs i x)) j d) (set_at (λ j. get_or (map f xs) j d) i (f x))
at_set f xs i x d l =
    let lt : i < length (map f xs) = simp length-map l in
    fun_ext (λ j. ap (λ ys. get_or ys j d) (map-set f xs i x) ∙ ⊎_elim
    (λ (e : j ≡ i). rw (eq-eqb j i e, e) (get_or-set_same (map f xs) i (f x) d lt))
    (λ (ne : j ≡ i → ⊥). rw (ne_eqb j i ne) (get_or-set_other (map f xs) i j (f x) d ne))
    (cases_eq j i))

-- the same element everywhere
all_same : {X Y : Type 0} (f : X → Y) (n j : ℕ) (x : X) (d : Y) → f x ≡ d → get_or (map f (replicate n x)) j d ≡ d
all_same f zero j x d e = refl
all_same f (suc n) zero x d e = e
all_same f (suc n) (suc j) x d e = all_same f n j x d e

pub at_replicate : {X Y : Type 0} (f : X → Y) (n : ℕ) (x : X) (d : Y) → f x ≡ d → ◌≡◌ {A = ℕ → Y} (λ j. get_or (map f (replicate n x)) j d) (λ j. d)
at_replicate f n x d e = fun_ext (λ j. all_same f n j x d e)

-- a fresh ledger
pub fresh_drawn : (k : Block) (a : Account) → marks_of k ≡ untouched → seat_of a ≡ 0 → log_of a ≡ [] → picture_of (replicate 64 k) (replicate 16 a) ≡ fresh_picture
fresh_drawn k a e s f = rw (at_replicate marks_of 64 k untouched e, at_replicate seat_of 16 a 0 s, at_replicate log_of 16 a [] f)

-- the marks of one block replaced, one seat, or one log; the place in the array is the number in the picture
pub block_drawn : (blocks : List Block) (accounts : List Account) (b i : ℕ) (k : Block) (m : Marks) → i ≡ b → i < length blocks → marks_of k ≡ m → picture_of (set blocks i k) accounts ≡ marked (picture_of blocks accounts) b m
block_drawn blocks accounts b i k m q l e = rw (at_set marks_of blocks i k untouched l, e, q)

seats_kept : (accounts : List Account) (i : ℕ) (a d : Account) → seat_of a ≡ seat_of (get_or accounts i d) → seats_in (set accounts i a) ≡ seats_in accounts
seats_kept accounts i a d s = ap (λ (ys : List ℕ). λ j. get_or ys j 0) (map-set_same seat_of accounts i a d s)

logs_kept : (accounts : List Account) (i : ℕ) (a d : Account) → log_of a ≡ log_of (get_or accounts i d) → logs_in (set accounts i a) ≡ logs_in accounts
logs_kept accounts i a d s = ap (λ (ys : List (List Recorded)). λ j. get_or ys j []) (map-set_same log_of accounts i a d s)

pub seat_drawn : (blocks : List Block) (accounts : List Account) (t i : ℕ) (a d : Account) → i ≡ t → i < length accounts → log_of a ≡ log_of (get_or accounts i d) → picture_of blocks (set accounts i a) ≡ seat_picture (picture_of blocks accounts) t (seat_of a)
seat_drawn blocks accounts t i a d q l e = rw (at_set seat_of accounts i a 0 l, logs_kept accounts i a d e, q)

pub log_drawn : (blocks : List Block) (accounts : List Account) (t i : ℕ) (a d : Account) (rs : List Recorded) → i ≡ t → i < length accounts → seat_of a ≡ seat_of (get_or accounts i d) → log_of a ≡ rs → picture_of blocks (set accounts i a) ≡ logged (picture_of blocks accounts) t rs
log_drawn blocks accounts t i a d rs q l s e = rw (seats_kept accounts i a d s, at_set log_of accounts i a [] l, e, q)

-- what stands in the arrays, as the picture has it
pub block_at : (blocks : List Block) (b i : ℕ) (d : Block) → i ≡ b → i < length blocks → marks_in blocks b ≡ marks_of (get_or blocks i d)
block_at blocks b i d q l = ap (marks_in blocks) (sym q) ∙ get_or-map marks_of blocks i d untouched l

pub seat_at : (accounts : List Account) (t i : ℕ) (d : Account) → i ≡ t → i < length accounts → seats_in accounts t ≡ seat_of (get_or accounts i d)
seat_at accounts t i d q l = ap (seats_in accounts) (sym q) ∙ get_or-map seat_of accounts i d 0 l

pub log_at : (accounts : List Account) (t i : ℕ) (d : Account) → i ≡ t → i < length accounts → logs_in accounts t ≡ log_of (get_or accounts i d)
log_at accounts t i d q l = ap (logs_in accounts) (sym q) ∙ get_or-map log_of accounts i d [] l

-- one record more in one log
pub noted-drawn : (blocks : List Block) (accounts : List Account) (t b n i c x : ℕ) (a d : Account) → i ≡ t → i < length accounts → c ≡ b → x ≡ n → seat_of a ≡ seat_of (get_or accounts i d) → log_of a ≡ log_of (get_or accounts i d) ++ record { block = c; count = x } ∷ [] →
    picture_of blocks (set accounts i a) ≡ noted (picture_of blocks accounts) t b n
noted-drawn blocks accounts t b n i c x a d q l r y s e = log_drawn blocks accounts t i a d (logs_in accounts t ++ record { block = b; count = n } ∷ []) q l s (rw (log_at accounts t i d q l, ← r, ← y) e)

-- each block below 64 relieved of the thread's credit, and its log emptied
pub released-drawn : (blocks news : List Block) (accounts : List Account) (t i : ℕ) (a d : Account) → i ≡ t → i < length accounts → marks_in news ≡ relieved_to 64 (marks_in blocks) (log_of (get_or accounts i d)) → seat_of a ≡ seat_of (get_or accounts i d) → log_of a ≡ [] →
    picture_of news (set accounts i a) ≡ release_picture (picture_of blocks accounts) t
unfolding relieved_picture
released-drawn blocks news accounts t i a d q l m s e =
    let log = log_at accounts t i d q l in
    log_drawn news accounts t i a d [] q l s e ∙ ap (λ (marks : ℕ → Marks). logged (record { marks = marks; seats = seats_in accounts; logs = logs_in accounts }) t []) (m ∙ ap (relieved_to 64 (marks_in blocks)) (sym log))
