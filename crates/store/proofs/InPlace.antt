-- The word in place at an address where no other job stored.
use Rattle.std.proofs.Common.{◌≡◌, ℕ, ◌<◌, false, List, length, get_or, Some, None, Option, sym, refl, ◌∙◌, subst, ⊎_elim, arith}
use Rattle.std.proofs.lemmas.Bool.{cases_eq}
use Rattle.store.specs.States.{State, block_of}
use Rattle.store.specs.Histories.{History, events, job_of, alone, serial_words, latest_store, stored_in}
use Rattle.store.specs.Reached.{Reached}
use Rattle.store.proofs.Alone.{length-serial_words, get_or-alone_stored, get_or-alone_unstored}
use Rattle.store.proofs.Blocks.{unstored_block}

module _ (m : List ℕ) (h : History) (s : State) (reached : Reached m h s) (t a : ℕ) (inside : a < length m) (others : (u : ℕ) → u < 16 → (u ≡ t → ⊥) → stored_in (job_of (events h) u) (block_of a) ≡ false) where
  -- where t did not store either, the serial word
  pub serial_there : latest_store (job_of (events h) t) a ≡ None → get_or s.words a 0 ≡ get_or (serial_words m (events h)) a 0
  serial_there e =
      reached.serial a inside
      (λ u l.
      ⊎_elim
      (λ (is : u ≡ t). subst (λ v. latest_store (job_of (events h) v) a ≡ None) (sym is) e)
      (λ (ne : u ≡ t → ⊥). unstored_block (job_of (events h) u) a (others u l ne))
      (cases_eq u t))

  -- and in any case the word that t's job gets when it is run alone
  pub own_there : t < 16 → get_or s.words a 0 ≡ get_or (alone (serial_words m (events h)) (job_of (events h) t)) a 0
  own_there l = go (latest_store (job_of (events h) t) a) refl
    where
      go : (o : Option ℕ) → latest_store (job_of (events h) t) a ≡ o → get_or s.words a 0 ≡ get_or (alone (serial_words m (events h)) (job_of (events h) t)) a 0
      go (Some w) e = reached.stored t a w l inside e ∙ sym (get_or-alone_stored (serial_words m (events h)) (job_of (events h) t) a w (omega (arith, length-serial_words m (events h))) e)
      go None e = serial_there e ∙ sym (get_or-alone_unstored (serial_words m (events h)) (job_of (events h) t) a e)
