-- The two parts of a slice that is cut once.
use Rattle.std.proofs.Common.{◌≡◌, ℕ, ◌+◌, ◌-◌, ◌<◌, Bool, true, false, List, [], ◌∷◌, ◌++◌, length, take, drop, Option, Some, None, sym, ap, subst, ◌∙◌, Bor, ◌⊎◌, arith}
use Rattle.std.specs.Bool.{MatchBool}
use Rattle.std.specs.List.{IsFirstMatchOrLen, position_or_len, before_first, after_first}
use Rattle.std.specs.Option.{MatchOption, UnwrapsOrElse}
use Rattle.std.proofs.lemmas.List.Sums.{position_or_len_is}
use Rattle.std.proofs.Math.Seq.{take-append_seam, drop-append-add}
use Rattle.std.specs.Fn.{ComputesKey}
use denote.Param.Members.{Mut}
use Rattle.std.proofs.lemmas.Grind.{common_steps}

module _ (p : ℕ → Bool) (xs : List ℕ) where
  -- the part before the first that passes, and, where `done` is false, what is behind it
  pub parted : (x more : List ℕ) (done : Bool) → IsFirstMatchOrLen p xs (length x) → MatchBool done (xs ≡ x) ((y : ℕ) × (xs ≡ x ++ (y ∷ more))) → (x ≡ before_first p xs) × MatchBool done (after_first p xs ≡ []) (more ≡ after_first p xs)
  parted x more true first is =
      let at : position_or_len p xs ≡ length x = position_or_len_is p xs (length x) 0 (omega (arith, ap length is)) (λ k h. first.0 k 0 (omega arith) h) (λ h. first.1 h 0) in
      grind (arith, common_steps, at, is)
  parted x more false first is =
      let at : position_or_len p xs ≡ length x = position_or_len_is p xs (length x) is.0 (grind (arith, common_steps, is.1)) (λ k h. first.0 k is.0 (omega arith) h) (λ h. first.1 h is.0) in
      (sym (ap (λ i. take i xs) at ∙ ap (take (length x)) is.1 ∙ take-append_seam x (is.0 ∷ more)), sym (ap (λ i. drop (i + 1) xs) at ∙ ap (drop (length x + 1)) is.1 ∙ drop-append-add x (is.0 ∷ more) 1))

  module _ {F : Type 0} (g : Mut F (Bor ℕ × Unit {0}) Bool) where
    -- one call of `next`: how many parts may still come, whether none is left, the rest and the closure, before it and after it
    abbrev pub Cuts : ℕ → Bool → List ℕ → F → Option (Bor (List ℕ)) → ℕ → Bool → List ℕ → F → Type 0
    Cuts n done l f r n' done' l' f' = (n' ≡ n - 1) × MatchOption r ((n ≡ 0) ⊎ (done ≡ true))
        (λ x. (0 < n) × (n ≡ 1 → done' ≡ true)
        × MatchBool done' (l ≡ x.now) ((y : ℕ) × (l ≡ x.now ++ (y ∷ l')))
        × (done ≡ false)
        × (1 < n → (q : ℕ → Bool) → ComputesKey g q f → ComputesKey g q f' × IsFirstMatchOrLen q l (length x.now)))

    abbrev pub Behind : Bool → List ℕ → Type 0
    Behind done l = MatchBool done (after_first p xs ≡ []) (l ≡ after_first p xs)

    module _ (n n' : ℕ) (done done' : Bool) (l l' : List ℕ) (f f' : F) where
      pub first : (a : Option (Bor (List ℕ))) → Cuts n done l f a n' done' l' f' → n ≡ 2 → done ≡ false → l ≡ xs → ComputesKey g p f → (n' ≡ 1) × MatchOption a (before_first p xs ≡ []) (λ x. x.now ≡ before_first p xs) × Behind done' l'
      first None c two begun whole computes = absurd (grind (arith, common_steps, c, two, begun))
      first (Some x) c two begun whole computes =
          let is = (c.1.4 (omega (arith, two)) p computes).1 in
          let both = parted x.now l' done' (subst (λ k. IsFirstMatchOrLen p k (length x.now)) whole is) (subst (λ k. MatchBool done' (k ≡ x.now) ((y : ℕ) × (k ≡ x.now ++ (y ∷ l')))) whole c.1.2) in
          (omega (arith, c.0, two), both.0, both.1)

      pub second : (b : Option (Bor (List ℕ))) → Cuts n done l f b n' done' l' f' → (n ≡ 1) × Behind done l → MatchOption b (after_first p xs ≡ []) (λ y. y.now ≡ after_first p xs)
      second None c h = grind (arith, common_steps, c, h)
      second (Some y) c h = grind (arith, common_steps, c.1.1 h.0, c.1.2, c.1.3, h)

-- a part, or an empty one where none came
pub unwrapped : (part : Option (Bor (List ℕ))) (r : Bor (List ℕ)) (is : List ℕ) → MatchOption part (is ≡ []) (λ x. x.now ≡ is) → UnwrapsOrElse part (λ x. x.now ≡ []) r → r.now ≡ is
unwrapped None r is h e = e ∙ sym h
unwrapped (Some x) r is h e = ap (λ (y : Bor (List ℕ)). y.now) e ∙ h
