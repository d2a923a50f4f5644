-- A `try_fold` over the items of a list.
use Rattle.std.proofs.Common.{◌≡◌, ◌+◌, List, [], ◌∷◌, ◌++◌, length, drop, Option, Some, None, sym, refl, ap, subst, ◌∙◌}
use Rattle.std.specs.ControlFlow.{continue_value}
use Rattle.std.specs.Fn.{Called}
use Rattle.std.specs.Iterator.{TryFoldTurn, TryFoldsItems, YieldsThen}
use Rattle.std.specs.List.{FoldsTo}
use Rattle.std.specs.Option.{MatchOption, option_and_then}
use Rattle.std.proofs.lemmas.Iterator.{YieldsList}
use Rattle.std.proofs.lemmas.Iterator.Consumers.{YieldsList-so_far, YieldsList-turn, YieldsList-end}
use Rattle.std.proofs.lemmas.List.{take-append-drop, at_drop_more, append-nil}
use mathlib.Core.List.{map}
use denote.Param.Members.{Mut}
use Rattle.std.specs.declared.ops.ControlFlow.{ControlFlow}

-- h takes the total along, for as long as it answers one
abbrev pub tried : {B C : Type 0} → (C → B → Option C) → C → List B → Option C
tried h a [] = Some a
tried h a (x ∷ xs) = option_and_then (λ b. tried h b xs) (h a x)

module _ {A B C F : Type 0} (E : Type 0) (v : A → B) (g : Mut F (C × (A × Unit {0})) (Option C)) (h : C → B → Option C) (f : F) (calls : (a : C) (x : A) (r : Option C) (q : F) → Called g f (a, (x, tt)) r q → (q ≡ f) × (r ≡ h a (v x))) where
  -- a turn that goes on
  abbrev Goes : F × C → A → F × C → Type 0
  Goes = TryFoldTurn g (λ r (c : ControlFlow E C). r ≡ continue_value c)

  -- turns that go on leave what is tried on the items behind them
  went : (xs : List A) (more : List B) (a b : C) (j : F) → FoldsTo {P = F × C} Goes (f, a) xs (j, b) → (j ≡ f) × (tried h a (map v xs ++ more) ≡ tried h b more)
  went [] more a b j c = (sym (ap (λ (p : F × C). p.0) c), ap (λ (p : F × C). tried h p.1 more) c)
  went (x ∷ xs) more a b j c =
      let one : (c.0.0 ≡ f) × (c.1.0 ≡ h a (v x)) = calls a x c.1.0 c.0.0 c.1.1 in
      let rest = went xs more c.0.1 b j (subst (λ (p : F × C). FoldsTo {P = F × C} Goes p xs (j, b)) {x = c.0} {y = (f, c.0.1)} (λ i. (one.0 i, c.0.1)) c.2) in
      (rest.0, ap (option_and_then (λ b. tried h b (map v xs ++ more))) (sym one.1 ∙ c.1.2) ∙ rest.1)

  module _ {S : Type 0} {steps : S → Option A → S → Type 0} {s : S} {all : List B} (gives : YieldsList steps v s all) where
    ran : (init : C) (r : Option C) (u : S) (xs : List A) (o : Option A) (j : F) (a : C) → YieldsThen steps s xs o u → FoldsTo {P = F × C} Goes (f, init) xs (j, a)
        → MatchOption o (r ≡ Some a) (λ x. (w : Option C) × (q : F) × (e : E) × Called g j (a, (x, tt)) w q × (w ≡ None) × (r ≡ None)) → r ≡ tried h init all
    ran init r u xs None j a y c end =
        end ∙ sym (went xs [] init a j c).1 ∙ ap (tried h init) (append-nil _ ∙ (YieldsList-end gives xs y.0 y.1 None u refl y.2).0)
    ran init r u xs (Some x) j a y c end =
        let turn = YieldsList-turn gives xs y.0 y.1 (Some x) u x refl y.2 in
        let seen : map v xs ++ drop (length xs) all ≡ all = ap (λ t. t ++ drop (length xs) all) (YieldsList-so_far gives xs y.0 y.1) ∙ take-append-drop (length xs) all in
        let kept = went xs (drop (length xs) all) init a j c in
        let stop : None ≡ h a (v x) = sym end.4 ∙ (calls a x end.0 end.1 (subst (λ i. Called g i (a, (x, tt)) end.0 end.1) kept.0 end.3)).1 in
        let rest = λ (b : C). tried h b (drop (length xs + 1) all) in
        let last : tried h a (drop (length xs) all) ≡ None =
        at_drop_more (tried h a) all (length xs) (v x) turn.0 ∙ ap (λ d. option_and_then rest (h a d)) (sym turn.1) ∙ sym (ap (option_and_then rest) stop) in
        end.5 ∙ sym (ap (tried h init) (sym seen) ∙ kept.1 ∙ last)

    -- the clause `ran` of a `try_fold` into an Option
    pub tried_from_yields_List : (init : C) (r : Option C) (u : S) → TryFoldsItems steps g (λ r (c : ControlFlow E C). r ≡ continue_value c) (λ _ r. r ≡ None) s f init r u → r ≡ tried h init all
    tried_from_yields_List init r u d = ran init r u d.0 d.1 d.2 d.3 d.4 d.5 d.6
