use Rattle.std.proofs.Common.{◌≡◌, ℕ, map, replicate, ap, ◌∙◌, sym}
use Rattle.book.specs.Picture.{credit_of}
use Rattle.board.specs.Credits.{recorded, credits_in, tokens_of}
use Rattle.board.proofs.Drawings.{at_replicate}
use Rattle.board.proofs.tokens.TokenLog.new.Goals as goal

pub invariant_of-result : goal.invariant_of-result
invariant_of-result c =
    let none : ◌≡◌ {A = ℕ → ℕ} (credits_in (replicate 64 c.none.result)) (λ b. 0) = at_replicate tokens_of 64 c.none.result 0 c.none.ensures in
    record { added_up = λ b. ap (λ f. f b) none ∙ sym (ap (λ rs. credit_of b (map recorded rs)) c.new.ensures) }
