-- What read and write answer within the words and past them.
use Rattle.std.specs.Prelude.{◌≡◌, ℕ, ◌<◌, ◌≤◌, List, length, Ok, Err, slice_index, refl}
use Rattle.std.proofs.Common.{sym, ap, ◌∙◌, arith}
use Rattle.fault.specs.declared.Fault.{Fault}
use Rattle.std.proofs.lemmas.Bool.{cond-true, cond-false, lt-ltb, le-ltb}
use Rattle.memory.specs.Words.{read_answer, write_answer, address_fault}

module _ (ws : List ℕ) (a : ℕ) where
  pub read_within : (w : ℕ) → a < length ws → w ≡ slice_index ws a → Ok w ≡ read_answer ws a
  read_within w lt e = ap Ok e ∙ sym (cond-true _ _ _ (lt-ltb a (length ws) lt))

  pub read_past : length ws ≤ a → Err (address_fault a) ≡ read_answer ws a
  read_past le = sym (cond-false _ _ _ (le-ltb a (length ws) le))

  pub write_within : a < length ws → Ok tt ≡ write_answer ws a
  write_within lt = sym (cond-true _ _ _ (lt-ltb a (length ws) lt))

  pub write_past : length ws ≤ a → Err (address_fault a) ≡ write_answer ws a
  write_past le = sym (cond-false _ _ _ (le-ltb a (length ws) le))

  -- and back: an answer tells where the address lies
  pub read_granted : (w : ℕ) → Ok w ≡ read_answer ws a → a < length ws → w ≡ slice_index ws a
  read_granted w e lt = let f = read_within (slice_index ws a) lt refl in cc

  pub write_not_refused : (f : Fault) → Err f ≡ write_answer ws a → a < length ws → ⊥
  write_not_refused f e lt = let g = write_within lt in let z : ◌≡◌ {A = ℕ} 0 1 = cc in omega arith
