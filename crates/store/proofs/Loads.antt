-- What the loads of a job answered, when the words that it is run on change elsewhere.
use Rattle.std.proofs.Common.{◌≡◌, ℕ, true, eqb, List, [], ◌∷◌, map, length, get_or, refl, ◌∙◌}
use Rattle.std.proofs.lemmas.Bool.{eq-eqb, or_left, or_right}
use Rattle.store.specs.States.{block_of}
use Rattle.store.specs.Histories.{Access, loads, stores, Job, Seen, touched, AgreesAt, Agrees}
use Rattle.store.proofs.Alone.{get_or-alone_same}
use Rattle.store.proofs.Blocks.{touched-load, touched-store}

-- one access more touches what was touched
still_touched : (x : Access) (j : Job) (b : ℕ) → touched j b ≡ true → touched (x ∷ j) b ≡ true
still_touched (loads a) j b e = touched-load a j b ∙ or_right (eqb (block_of a) b) (touched j b) e
still_touched (stores a w) j b e = touched-store a w j b ∙ or_right (eqb (block_of a) b) (touched j b) e

agrees_at : (ws vs : List ℕ) (x : Access) (w : ℕ) (j : Job) → length ws ≡ length vs → ((a : ℕ) → touched (x ∷ j) (block_of a) ≡ true → get_or ws a 0 ≡ get_or vs a 0) → AgreesAt ws x w j → AgreesAt vs x w j
agrees_at ws vs (loads a) w j n same e = e ∙ get_or-alone_same ws vs j a n (same a (touched-load a j (block_of a) ∙ or_left (eqb (block_of a) (block_of a)) (touched j (block_of a)) (eq-eqb (block_of a) (block_of a) refl)))
agrees_at ws vs (stores a v) w j n same e = tt

-- words alike in every block that the job touched
pub agrees_same : (ws vs : List ℕ) (xs : List Seen) → length ws ≡ length vs → ((a : ℕ) → touched (map (λ y. y.access) xs) (block_of a) ≡ true → get_or ws a 0 ≡ get_or vs a 0) → Agrees ws xs → Agrees vs xs
unfolding Agrees
agrees_same ws vs [] n same all = tt
agrees_same ws vs (x ∷ xs) n same (here, rest) =
    (agrees_at ws vs x.access x.word (map (λ y. y.access) xs) n same here, agrees_same ws vs xs n (λ a e. same a (still_touched x.access (map (λ y. y.access) xs) (block_of a) e)) rest)

pub agrees_none : (ws : List ℕ) → Agrees ws []
unfolding Agrees
agrees_none ws = tt

-- one access more, which answered rightly
pub agrees_more : (ws : List ℕ) (x : Seen) (xs : List Seen) → AgreesAt ws x.access x.word (map (λ y. y.access) xs) → Agrees ws xs → Agrees ws (x ∷ xs)
unfolding Agrees
agrees_more ws x xs here rest = (here, rest)
