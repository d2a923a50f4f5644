-- The table's rows, read as holdings.
use Rattle.std.proofs.Common.{◌≡◌, ℕ, zero, suc, ◌+◌, ◌<◌, ◌≤◌, cond, ltb, Bool, All, List, [], length, get_or, set, take, replicate, count_by, sym, ap, ◌∙◌, refl, subst, ⊎_elim, add-one, arith}
use mathlib.Core.Path.{fun_ext}
use Rattle.std.proofs.lemmas.List.{get_or-replicate, length-replicate, get_or_past, take_all}
use Rattle.std.proofs.lemmas.List.Elements.{All-get_or, All-replicate}
use Rattle.std.proofs.lemmas.List.Sums.{sum_by_more}
use Rattle.std.proofs.lemmas.Bool.{cases_lt}
use Rattle.std.proofs.lemmas.Bool.Decides.{nat_tests}
use Rattle.std.proofs.lemmas.Grind.{common_steps}
use Rattle.book.specs.Holdings.{Sound, put, cleared, count_below, blocks_held}
use Rattle.book.proofs.Below.{count_none, count_more}
use Rattle.book.proofs.Kept.{clear_kept}
use Rattle.full.specs.Held.{tokens_of, held_in}
use Rattle.full.specs.declared.holding.Holding.{Holding}
use Rattle.full.specs.declared.holding.Holding.TheVariants.{Nothing}

-- a row of empty cells
empty_row : (n b : ℕ) → get_or (replicate n Nothing) b Nothing ≡ Nothing
empty_row n b = ⊎_elim (λ (l : b < n). get_or-replicate n b Nothing Nothing l) (λ (m : n ≤ b). get_or_past (replicate n Nothing) b Nothing (simp length-replicate m)) (cases_lt b n)

-- a table of empty rows
pub none_held : (n m : ℕ) → held_in (replicate n (replicate m Nothing)) ≡ (λ t b. 0)
none_held n m = fun_ext (λ t. fun_ext (λ b. ⊎_elim (λ (l : t < n). rw (get_or-replicate n t (replicate m Nothing) [] l, empty_row m b) refl) (λ (k : n ≤ t). rw (get_or_past (replicate n (replicate m Nothing)) t [] (simp length-replicate k)) refl) (cases_lt t n)))

-- and it is sound
pub none_sound : (n m : ℕ) → Sound (held_in (replicate n (replicate m Nothing)))
none_sound n m = rw (none_held n m) (record { counted = λ t b l k. refl; alone = λ t u b l k v ne e. refl })

-- both at the sizes of a table: the search finds no sizes by itself
pub fresh_held : held_in (replicate 16 (replicate 64 Nothing)) ≡ (λ t b. 0)
fresh_held = none_held 16 64

pub fresh_kept : record { sixteen : length (replicate 16 (replicate 64 Nothing)) ≡ 16; whole : All (λ row. length row ≡ 64) (replicate 16 (replicate 64 Nothing)); sound : ∥ Sound (held_in (replicate 16 (replicate 64 Nothing))) ∥₁ }
fresh_kept = record { sixteen = refl; whole = All-replicate (λ row. length row ≡ 64) 16 (replicate 64 Nothing) refl; sound = ∣ none_sound 16 64 ∣₁ }

-- one cell written, at its thread's place and its block's
pub written : (rows : List (List Holding)) (t b v i j : ℕ) (h : Holding) → i ≡ t → j ≡ b → tokens_of h ≡ v → t < length rows → b < 64 → All (λ row. length row ≡ 64) rows → held_in (set rows i (set (get_or rows i []) j h)) ≡ put (held_in rows) t b v
written rows t b v i j h d e f l k whole =
    let r = All-get_or (λ row. length row ≡ 64) rows t [] l whole in
    rw (d, e, ← f) (fun_ext (λ u. fun_ext (λ c. grind (arith, nat_tests, common_steps))))

-- one row emptied
pub emptied : (rows : List (List Holding)) (t n : ℕ) → t < length rows → held_in (set rows t (replicate n Nothing)) ≡ cleared (held_in rows) t
emptied rows t n l = fun_ext (λ u. fun_ext (λ c. let e = empty_row n c in grind (arith, nat_tests, common_steps)))

-- a sound table stays sound
pub emptied_sound : (rows : List (List Holding)) (t n : ℕ) → t < length rows → Sound (held_in rows) → Sound (held_in (set rows t (replicate n Nothing)))
emptied_sound rows t n l s = rw (emptied rows t n l) (clear_kept (held_in rows) t s)

-- the first n cells of a row that pass the test, counted by their places
counted_to : (p : Holding → Bool) (row : List Holding) (n : ℕ) → n ≤ length row → count_by p (take n row) ≡ count_below (λ b. p (get_or row b Nothing)) n
counted_to p row zero l = sym (count_none (λ b. p (get_or row b Nothing)))
counted_to p row (suc n) l =
    let e = counted_to p row n (omega arith) in
    let m = count_more (λ b. p (get_or row b Nothing)) n in
    let s = sum_by_more (λ cell. cond (p cell) 1 0) row n Nothing (omega arith) in
    subst (λ (k : ℕ). count_by p (take k row) ≡ count_below (λ b. p (get_or row b Nothing)) k) (add-one n) (s ∙ ap (λ k. k + cond (p (get_or row n Nothing)) 1 0) e ∙ sym m)

-- the cells of a row that hold tokens, as the blocks that its thread holds tokens of
pub counted : (rows : List (List Holding)) (t : ℕ) → length (get_or rows t []) ≡ 64 → count_by (λ cell. ltb 0 (tokens_of cell)) (get_or rows t []) ≡ blocks_held (held_in rows) t
counted rows t whole = subst (λ (row : List Holding). count_by (λ cell. ltb 0 (tokens_of cell)) row ≡ blocks_held (held_in rows) t) (take_all 64 (get_or rows t []) (omega arith)) (counted_to (λ cell. ltb 0 (tokens_of cell)) (get_or rows t []) 64 (omega arith))
