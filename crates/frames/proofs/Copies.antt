-- A copy that has come as far as one address.
use Rattle.std.proofs.Common.{◌≡◌, ℕ, ◌+◌, ◌<◌, List, ◌++◌, length, get_or, take, drop, set, sym, ap, ◌∙◌, append_assoc, arith}
use Rattle.std.proofs.lemmas.List.{length-append, length-take-le, length-drop, take_more, drop_more, set_at}
use Rattle.std.proofs.lemmas.Grind.{common_steps}

module _ (xs ys : List ℕ) (a : ℕ) (lx : a < length xs) (ly : a < length ys) where
  pub length-partly : length (take a xs ++ drop a ys) ≡ length ys
  length-partly = simp (length-append, length-drop) (omega (arith, length-take-le a xs (omega arith)))

  pub set_partly : set (take a xs ++ drop a ys) a (get_or xs a 0) ≡ take (a + 1) xs ++ drop (a + 1) ys
  set_partly =
      ap (λ l. set (take a xs ++ l) a (get_or xs a 0)) (drop_more ys a 0 ly)
      ∙ set_at (take a xs) _ (drop (a + 1) ys) (get_or xs a 0) a (length-take-le a xs (omega arith))
      ∙ sym (ap (λ l. l ++ drop (a + 1) ys) (take_more xs a 0 lx) ∙ append_assoc (take a xs) _ _)

pub ruleset copying = (set_partly, length-partly, common_steps)
