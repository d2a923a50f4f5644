-- The blocks of the book, read as holdings.
use Rattle.std.proofs.Common.{◌≡◌, ℕ, ◌+◌, ◌<◌, ◌≤◌, ◌&&◌, Bool, true, false, cond, eqb, ltb, leb, List, length, get_or, set, replicate, Ok, Err, Result, is_ok, sym, ap, ◌∙◌, refl, subst, ⊎_elim, arith}
use mathlib.Core.Path.{fun_ext}
use Rattle.std.proofs.lemmas.List.{get_or-replicate, get_or-set_same, get_or-set_other, length-replicate, length-set, get_or_past, get_or_default}
use Rattle.std.proofs.lemmas.Bool.{cases_lt, cases_eq, eq-eqb, ne_eqb, lt-ltb}
use Rattle.std.proofs.lemmas.Bool.Decides.{nat_tests}
use Rattle.std.proofs.lemmas.Nat.Bits.{bit_at-zero}
use Rattle.fault.specs.declared.Fault.{Fault}
use Rattle.book.specs.declared.Take.{Take}
use Rattle.book.specs.Holdings.{Holdings, put, wanted, count_below}
use Rattle.book.specs.Rules.{granted, take_answer, after_take}
use Rattle.book.proofs.Below.{count_none, count_more}
use Rattle.further.specs.declared.holders.Holders.{Holders}
use Rattle.further.specs.declared.holders.Holders.TheVariants.{Readers}
use Rattle.further.specs.Held.{tokens_of, held_in, everywhere, TakenBy}

-- a book of untouched blocks
none_held : (n : ℕ) → held_in (replicate n (Readers 0)) ≡ (λ t b. 0)
none_held n = fun_ext (λ t. fun_ext (λ b. ap (λ (h : Holders). tokens_of h t) (empty b) ∙ bit_at-zero t))
  where
    empty : (b : ℕ) → get_or (replicate n (Readers 0)) b (Readers 0) ≡ Readers 0
    empty b = ⊎_elim (λ (l : b < n). get_or-replicate n b (Readers 0) (Readers 0) l) (λ (m : n ≤ b). get_or_past (replicate n (Readers 0)) b (Readers 0) (simp length-replicate m)) (cases_lt b n)

-- at the size of a book: the search finds no size by itself
pub fresh_held : held_in (replicate 64 (Readers 0)) ≡ (λ t b. 0)
fresh_held = none_held 64

-- one block asked by the rules of the book
asked : (take : Take) (blocks : List Holders) (t b : ℕ) → b < 64 → take_answer take (everywhere (get_or blocks b (Readers 0))) t 0 ≡ take_answer take (held_in blocks) t b
asked take blocks t b l = rw (lt-ltb b 64 l)

-- a take alters the holdings of its block, and no others
placed : (ok enough : Bool) (H : Holdings) (t b v u : ℕ) → cond ok (cond enough H (put H t b v)) H u b ≡ cond ok (cond {A = Holdings} enough (λ x y. H x b) (put (λ x y. H x b) t 0 v)) (λ x y. H x b) u 0
placed true true H t b v u = refl
placed true false H t b v u = rw (eq-eqb b b refl)
placed false enough H t b v u = refl

spared : (ok enough : Bool) (H : Holdings) (t b v u c : ℕ) → (c ≡ b → ⊥) → cond ok (cond enough H (put H t b v)) H u c ≡ H u c
spared true true H t b v u c ne = refl
spared true false H t b v u c ne = rw (ne_eqb c b ne) (grind (arith, nat_tests))
spared false enough H t b v u c ne = refl

module _ (take : Take) (blocks : List Holders) (t b : ℕ) (below : b < 64) (whole : length blocks ≡ 64) where
  pub refused : (fault : Fault) → TakenBy take (get_or blocks b (Readers 0)) t (Err fault) → (Err fault ≡ take_answer take (held_in blocks) t b) × (held_in blocks ≡ after_take take (held_in blocks) t b)
  refused fault e =
      let answer = e ∙ asked take blocks t b below in
      (answer, subst (λ (r : Result (Unit {0}) Fault). held_in blocks ≡ cond (is_ok r) (cond (leb (wanted take) (held_in blocks t b)) (held_in blocks) (put (held_in blocks) t b (wanted take))) (held_in blocks)) answer refl)

  pub taken : (after : Holders) → TakenBy take (get_or blocks b (Readers 0)) t (Ok after) → (granted ≡ take_answer take (held_in blocks) t b) × (held_in (set blocks b after) ≡ after_take take (held_in blocks) t b)
  taken after e = (e.0 ∙ asked take blocks t b below, fun_ext (λ u. fun_ext (λ c. at u c)))
    where
      at : (u c : ℕ) → tokens_of (get_or (set blocks b after) c (Readers 0)) u ≡ after_take take (held_in blocks) t b u c
      at u c =
          ⊎_elim
          (λ (same : c ≡ b). rw same
          (ap (λ (h : Holders). tokens_of h u) (get_or-set_same blocks b after (Readers 0) (omega arith))
          ∙ e.1 u
          ∙ ap (λ (r : Result (Unit {0}) Fault). cond (is_ok r) (cond {A = Holdings} (leb (wanted take) (held_in blocks t b)) (λ x y. held_in blocks x b) (put (λ x y. held_in blocks x b) t 0 (wanted take))) (λ x y. held_in blocks x b) u 0) (asked take blocks t b below)
          ∙ sym (placed (is_ok (take_answer take (held_in blocks) t b)) (leb (wanted take) (held_in blocks t b)) (held_in blocks) t b (wanted take) u)))
          (λ (ne : c ≡ b → ⊥).
          ap (λ (h : Holders). tokens_of h u) (get_or-set_other blocks b c after (Readers 0) ne)
          ∙ sym (spared (is_ok (take_answer take (held_in blocks) t b)) (leb (wanted take) (held_in blocks t b)) (held_in blocks) t b (wanted take) u c ne))
          (cases_eq c b)

-- a thread taken out of the first n blocks, and the count of those that it held tokens of
pub record Cleared (before : List Holders) (t n held : ℕ) (blocks : List Holders) : Type 0 where
  pub whole : length blocks ≡ 64
  pub count : held ≡ count_below (λ b. ltb 0 (held_in before t b)) n
  pub most : held ≤ n
  pub each : (u b : ℕ) → held_in blocks u b ≡ cond (ltb b n && eqb u t) 0 (held_in before u b)

pub cleared_none : (before : List Holders) (t : ℕ) → length before ≡ 64 → Cleared before t 0 0 before
cleared_none before t whole = record { whole = whole; count = sym (count_none _); most = omega arith; each = λ u b. grind (arith, nat_tests) }

pub cleared_more : (before blocks : List Holders) (t n held m : ℕ) (after d : Holders) → Cleared before t n held blocks → n < length blocks → m ≡ held + cond (ltb 0 (tokens_of (get_or blocks n d) t)) 1 0 → ((u : ℕ) → tokens_of after u ≡ cond (eqb u t) 0 (tokens_of (get_or blocks n d) u)) → Cleared before t (n + 1) m (set blocks n after)
cleared_more before blocks t n held m after d s l e out =
    let here = λ (u : ℕ). ap (λ (h : Holders). tokens_of h u) (get_or_default blocks n d (Readers 0) l) ∙ s.each u n in
    record {
      whole = length-set blocks n after ∙ s.whole;
      count = (let f : tokens_of (get_or blocks n d) t ≡ held_in before t n = (let g = here t in grind (arith, nat_tests)) in e ∙ rw (f, s.count)) ∙ sym (count_more (λ b. ltb 0 (held_in before t b)) n);
      most = (let f = s.most in grind (arith, nat_tests));
      each = λ u b. ⊎_elim
          (λ (same : b ≡ n). rw (same, get_or-set_same blocks n after (Readers 0) l) (let o = out u in let f = here u in grind (arith, nat_tests)))
          (λ (ne : b ≡ n → ⊥). ap (λ (h : Holders). tokens_of h u) (get_or-set_other blocks n b after (Readers 0) ne) ∙ s.each u b ∙ grind (arith, nat_tests))
          (cases_eq b n);
    }
