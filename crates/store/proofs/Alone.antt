-- A job run alone: how many words there are afterwards, and which word stands at an address.
use Rattle.std.proofs.Common.{◌≡◌, ℕ, ◌<◌, ◌≤◌, true, false, eqb, List, [], ◌∷◌, length, get_or, is_some, Some, None, Option, unwrap_or, sym, refl, ap, ◌∙◌, ⊎_elim, arith}
use Rattle.std.proofs.lemmas.List.{length-set, get_or-set_same, get_or-set_other, get_or_past}
use Rattle.std.proofs.lemmas.Bool.{cases_eq, cases_lt, eq-eqb, ne_eqb, both_ways}
use Rattle.store.specs.Histories.{Event, opens, accesses, ends, nothing, Access, loads, stores, Job, job_of, alone, serial_words, latest_store}

pub length-alone : (ws : List ℕ) (j : Job) → length (alone ws j) ≡ length ws
unfolding alone
length-alone ws [] = refl
length-alone ws (loads a ∷ j) = length-alone ws j
length-alone ws (stores a w ∷ j) = length-set (alone ws j) a w ∙ length-alone ws j

pub length-serial_words : (m : List ℕ) (es : List (Event Access)) → length (serial_words m es) ≡ length m
unfolding serial_words
length-serial_words m [] = refl
length-serial_words m (opens t ∷ es) = length-serial_words m es
length-serial_words m (accesses t x ∷ es) = length-serial_words m es
length-serial_words m (ends t true ∷ es) = length-alone (serial_words m es) (job_of es t) ∙ length-serial_words m es
length-serial_words m (ends t false ∷ es) = length-serial_words m es
length-serial_words m (nothing ∷ es) = length-serial_words m es

-- whether there is a word
pub some_is : (o : Option ℕ) → is_some o ≡ true → (w : ℕ) × (o ≡ Some w)
some_is (Some w) e = (w, refl)
some_is None e = absurd (both_ways false refl e)

pub none_is : (o : Option ℕ) → is_some o ≡ false → o ≡ None
none_is (Some w) e = absurd (both_ways true e refl)
none_is None e = refl

-- the latest store at an address after one more store
pub latest_same : (a w : ℕ) (j : Job) → latest_store (stores a w ∷ j) a ≡ Some w
unfolding latest_store
latest_same a w j = rw (eq-eqb a a refl)

pub latest_other : (b w : ℕ) (j : Job) (a : ℕ) → (a ≡ b → ⊥) → latest_store (stores b w ∷ j) a ≡ latest_store j a
unfolding latest_store
latest_other b w j a ne = let e : eqb b a ≡ false = ne_eqb b a (λ is. ne (sym is)) in rw e

pub latest_load : (b : ℕ) (j : Job) (a : ℕ) → latest_store (loads b ∷ j) a ≡ latest_store j a
unfolding latest_store
latest_load b j a = refl

pub latest_none : (a : ℕ) → latest_store [] a ≡ None
unfolding latest_store
latest_none a = refl

-- within the words: the job's latest store, or else the word found
pub get_or-alone : (ws : List ℕ) (j : Job) (a : ℕ) → a < length ws → get_or (alone ws j) a 0 ≡ unwrap_or (latest_store j a) (get_or ws a 0)
unfolding alone latest_store
get_or-alone ws [] a l = refl
get_or-alone ws (loads b ∷ j) a l = get_or-alone ws j a l
get_or-alone ws (stores b w ∷ j) a l =
    ⊎_elim
    (λ (is : a ≡ b). rw is (get_or-set_same (alone ws j) b w 0 (omega (arith, length-alone ws j, is)) ∙ ap (λ o. unwrap_or o (get_or ws b 0)) (sym (latest_same b w j))))
    (λ (ne : a ≡ b → ⊥). get_or-set_other (alone ws j) b a w 0 ne ∙ get_or-alone ws j a l ∙ ap (λ o. unwrap_or o (get_or ws a 0)) (sym (latest_other b w j a ne)))
    (cases_eq a b)

-- past the words there is nothing to read
pub get_or-alone_past : (ws : List ℕ) (j : Job) (a : ℕ) → length ws ≤ a → get_or (alone ws j) a 0 ≡ get_or ws a 0
get_or-alone_past ws j a l = get_or_past (alone ws j) a 0 (omega (arith, length-alone ws j)) ∙ sym (get_or_past ws a 0 l)

-- where the job stored nothing the word is the one found
pub get_or-alone_unstored : (ws : List ℕ) (j : Job) (a : ℕ) → latest_store j a ≡ None → get_or (alone ws j) a 0 ≡ get_or ws a 0
get_or-alone_unstored ws j a e =
    ⊎_elim
    (λ (l : a < length ws). get_or-alone ws j a l ∙ ap (λ o. unwrap_or o (get_or ws a 0)) e)
    (get_or-alone_past ws j a)
    (cases_lt a (length ws))

-- where it stored, the word is its latest, whatever was found
pub get_or-alone_stored : (ws : List ℕ) (j : Job) (a w : ℕ) → a < length ws → latest_store j a ≡ Some w → get_or (alone ws j) a 0 ≡ w
get_or-alone_stored ws j a w l e = get_or-alone ws j a l ∙ ap (λ o. unwrap_or o (get_or ws a 0)) e

-- words alike at an address are alike there afterwards
pub get_or-alone_same : (ws vs : List ℕ) (j : Job) (a : ℕ) → length ws ≡ length vs → get_or ws a 0 ≡ get_or vs a 0 → get_or (alone ws j) a 0 ≡ get_or (alone vs j) a 0
get_or-alone_same ws vs j a n e =
    ⊎_elim
    (λ (l : a < length ws). get_or-alone ws j a l ∙ ap (unwrap_or (latest_store j a)) e ∙ sym (get_or-alone vs j a (omega arith)))
    (λ (l : length ws ≤ a). get_or-alone_past ws j a l ∙ e ∙ sym (get_or-alone_past vs j a (omega arith)))
    (cases_lt a (length ws))
