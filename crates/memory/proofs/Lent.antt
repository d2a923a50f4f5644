-- The front of what is lent, cut at a limit: all of it, or as many items as the limit says.
use Rattle.std.proofs.Common.{◌≡◌, ℕ, min, List, length, take, drop, sym, ap, ◌∙◌, ⊎_elim, drop_of_length-le, arith}
use Rattle.std.proofs.lemmas.List.{take_all}
use Rattle.std.proofs.lemmas.Bool.{cases_lt}

module _ (limit : ℕ) (t : List ℕ) (n : ℕ) (e : n ≡ min (length t) limit) where
  pub used_is : take n t ≡ take limit t
  used_is =
      ⊎_elim
      (λ short. take_all n t (omega arith) ∙ sym (take_all limit t (omega arith)))
      (λ long. let whole : n ≡ limit = omega arith in ap (λ k. take k t) whole)
      (cases_lt (length t) limit)

  pub rest_is : drop n t ≡ drop limit t
  rest_is =
      ⊎_elim
      (λ short. drop_of_length-le t {i = n} (omega arith) ∙ sym (drop_of_length-le t {i = limit} (omega arith)))
      (λ long. let whole : n ≡ limit = omega arith in ap (λ k. drop k t) whole)
      (cases_lt (length t) limit)
