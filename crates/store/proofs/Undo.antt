-- Undo records: the log of a job, one more record, and what putting the old words back leaves.
use Rattle.std.proofs.Common.{◌≡◌, ℕ, ◌<◌, Bool, true, false, cond, ◌||◌, eqb, ltb, List, [], ◌∷◌, ◌++◌, map, length, get_or, is_some, Some, None, Option, sym, refl, ap, ◌∙◌, ⊎_elim, arith}
use Rattle.record_log.specs.Latest.{latest_of}
use Rattle.record_log.proofs.Search.{latest_cons}
use Rattle.std.specs.Option.{option_or}
use Rattle.std.proofs.lemmas.List.{length-map, length-set, map_push, get_or-set_same, get_or-set_other}
use Rattle.std.proofs.lemmas.Bool.{cases_eq, eq-eqb, ne_eqb, both_ways, or_left, or_right}
use Rattle.threads.specs.Entries.{logged_in, noted}
use Rattle.threads.specs.declared.record.Undo.{Undo}
use Rattle.threads.proofs.Logs.{logged_none, logged-push}
use Rattle.store.specs.States.{put_back}
use Rattle.store.specs.Histories.{loads, stores, Job, latest_store, stored_addresses}
use Rattle.store.specs.Reached.{record_of}
use Rattle.store.proofs.Alone.{latest_none, latest_load}

-- no store, no record
pub records_none : (ws : List ℕ) → [] ≡ map (record_of ws) (stored_addresses [])
unfolding stored_addresses
records_none ws = refl

-- whether the job stored at an address, after one more store
some_store : (b w : ℕ) (j : Job) (a : ℕ) → is_some (latest_store (stores b w ∷ j) a) ≡ (eqb b a || is_some (latest_store j a))
unfolding latest_store
some_store b w j a = go (eqb b a)
  where
    go : (q : Bool) → is_some (cond q (Some w) (latest_store j a)) ≡ (q || is_some (latest_store j a))
    go true = refl
    go false = refl

some_again : (b w : ℕ) (j : Job) (a : ℕ) → is_some (latest_store j b) ≡ true → is_some (latest_store (stores b w ∷ j) a) ≡ is_some (latest_store j a)
some_again b w j a e =
    ⊎_elim
    (λ (is : b ≡ a). let f = some_store b w j a in let g = eq-eqb b a is in let k : is_some (latest_store j a) ≡ true = rw is at e in cc)
    (λ (ne : b ≡ a → ⊥). let f = some_store b w j a in let g = ne_eqb b a ne in cc)
    (cases_eq b a)

-- an address is logged exactly if the job stored there
pub logged_in-stored : (ws : List ℕ) (j : Job) (a : ℕ) → logged_in (map (record_of ws) (stored_addresses j)) a ≡ is_some (latest_store j a)
unfolding stored_addresses
logged_in-stored ws [] a = logged_none a ∙ ap is_some (sym (latest_none a))
logged_in-stored ws (loads b ∷ j) a = logged_in-stored ws j a ∙ ap is_some (sym (latest_load b j a))
logged_in-stored ws (stores b w ∷ j) a = go (is_some (latest_store j b)) refl (logged_in-stored ws j a)
  where
    go : (q : Bool) → is_some (latest_store j b) ≡ q → logged_in (map (record_of ws) (stored_addresses j)) a ≡ is_some (latest_store j a) → logged_in (map (record_of ws) (cond q (stored_addresses j) (stored_addresses j ++ b ∷ []))) a ≡ is_some (latest_store (stores b w ∷ j) a)
    go true e ih = ih ∙ sym (some_again b w j a e)
    go false e ih = ap (λ us. logged_in us a) (map_push (record_of ws) (stored_addresses j) b) ∙ logged-push (map (record_of ws) (stored_addresses j)) (record_of ws b) a ∙ ap (λ q. eqb b a || q) ih ∙ sym (some_store b w j a)

-- words alike wherever the job stored give the same records
pub records_same : (ws vs : List ℕ) (j : Job) → ((a : ℕ) → is_some (latest_store j a) ≡ true → get_or ws a 0 ≡ get_or vs a 0) → map (record_of ws) (stored_addresses j) ≡ map (record_of vs) (stored_addresses j)
unfolding stored_addresses
records_same ws vs [] same = refl
records_same ws vs (loads b ∷ j) same = records_same ws vs j (λ a e. same a (ap is_some (latest_load b j a) ∙ e))
records_same ws vs (stores b w ∷ j) same =
    go (is_some (latest_store j b))
    (records_same ws vs j (λ a e. same a (some_store b w j a ∙ or_right (eqb b a) (is_some (latest_store j a)) e)))
    (same b (some_store b w j b ∙ or_left (eqb b b) (is_some (latest_store j b)) (eq-eqb b b refl)))
  where
    go : (q : Bool) → map (record_of ws) (stored_addresses j) ≡ map (record_of vs) (stored_addresses j) → get_or ws b 0 ≡ get_or vs b 0 → map (record_of ws) (cond q (stored_addresses j) (stored_addresses j ++ b ∷ [])) ≡ map (record_of vs) (cond q (stored_addresses j) (stored_addresses j ++ b ∷ []))
    go true ih e = ih
    go false ih e = let f = map_push (record_of ws) (stored_addresses j) b in let g = map_push (record_of vs) (stored_addresses j) b in cc

-- one record more, with the word found where the job had not stored
pub noted-stores : (ws : List ℕ) (j : Job) (a w old : ℕ) → (ltb (length (stored_addresses j)) 64 || is_some (latest_store j a)) ≡ true → (latest_store j a ≡ None → old ≡ get_or ws a 0) → noted (map (record_of ws) (stored_addresses j)) a old ≡ map (record_of ws) (stored_addresses (stores a w ∷ j))
unfolding stored_addresses
noted-stores ws j a w old room found =
    rw (logged_in-stored ws j a, length-map (stored_addresses j) (record_of ws)) (go (latest_store j a) (ltb (length (stored_addresses j)) 64) room found)
  where
    go : (o : Option ℕ) (q : Bool) → (q || is_some o) ≡ true → (o ≡ None → old ≡ get_or ws a 0) → cond (is_some o) (map (record_of ws) (stored_addresses j)) (cond q (map (record_of ws) (stored_addresses j) ++ record { address = a; old = old } ∷ []) (map (record_of ws) (stored_addresses j))) ≡ map (record_of ws) (cond (is_some o) (stored_addresses j) (stored_addresses j ++ a ∷ []))
    go (Some v) q r f = refl
    go None true r f = let e = f refl in let g = map_push (record_of ws) (stored_addresses j) a in cc
    go None false r f = absurd (both_ways false refl r)

pub length-put_back : (ws : List ℕ) (us : List Undo) → length (put_back ws us) ≡ length ws
unfolding put_back
length-put_back ws [] = refl
length-put_back ws (u ∷ us) = length-set (put_back ws us) u.address u.old ∙ length-put_back ws us

logged_in-more : (us : List Undo) (u : Undo) (a : ℕ) → logged_in (u ∷ us) a ≡ (eqb u.address a || logged_in us a)
logged_in-more us u a = ap is_some (latest_cons (λ v. v.address) a u us) ∙ go (latest_of (λ v. v.address) a us) (eqb u.address a)
  where
    go : (o : Option Undo) (q : Bool) → is_some (option_or o (cond q (Some u) None)) ≡ (q || is_some o)
    go (Some v) true = refl
    go (Some v) false = refl
    go None true = refl
    go None false = refl

-- an address in the log has its word of vs again, and any other the word in place
get_or-put_back : (ws vs : List ℕ) (xs : List ℕ) (a : ℕ) → a < length ws → get_or (put_back ws (map (record_of vs) xs)) a 0 ≡ cond (logged_in (map (record_of vs) xs) a) (get_or vs a 0) (get_or ws a 0)
unfolding put_back
get_or-put_back ws vs [] a l = sym (ap (λ q. cond q (get_or vs a 0) (get_or ws a 0)) (logged_none a))
get_or-put_back ws vs (x ∷ xs) a l =
    ⊎_elim
    (λ (is : a ≡ x). let e = get_or-set_same (put_back ws (map (record_of vs) xs)) x (get_or vs x 0) 0 (omega (arith, length-put_back ws (map (record_of vs) xs))) in let f = logged_in-more (map (record_of vs) xs) (record_of vs x) a in let g = eq-eqb x a (sym is) in cc)
    (λ (ne : a ≡ x → ⊥). let e = get_or-set_other (put_back ws (map (record_of vs) xs)) x a (get_or vs x 0) 0 ne in let f = logged_in-more (map (record_of vs) xs) (record_of vs x) a in let g = ne_eqb x a (λ is. ne (sym is)) in let k = get_or-put_back ws vs xs a l in cc)
    (cases_eq a x)

-- putting a job's records back: the words of vs where it stored
pub get_or-put_back_stored : (ws vs : List ℕ) (j : Job) (a w : ℕ) → a < length ws → latest_store j a ≡ Some w → get_or (put_back ws (map (record_of vs) (stored_addresses j))) a 0 ≡ get_or vs a 0
get_or-put_back_stored ws vs j a w l e = let f = get_or-put_back ws vs (stored_addresses j) a l in let g = logged_in-stored vs j a in cc

-- and the words in place elsewhere
pub get_or-put_back_other : (ws vs : List ℕ) (j : Job) (a : ℕ) → a < length ws → latest_store j a ≡ None → get_or (put_back ws (map (record_of vs) (stored_addresses j))) a 0 ≡ get_or ws a 0
get_or-put_back_other ws vs j a l e = let f = get_or-put_back ws vs (stored_addresses j) a l in let g = logged_in-stored vs j a in cc
