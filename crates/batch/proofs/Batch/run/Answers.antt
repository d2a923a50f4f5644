use Rattle.std.proofs.Common.{◌≡◌, ℕ, List, refl, subst}
use Rattle.book.specs.Holdings.{Holdings}
use Rattle.book.specs.Moves.{Move}
use Rattle.book.specs.Picture.{Picture}
use Rattle.console.specs.declared.Ran.{Ran}
use Rattle.lent.specs.Promises.{RanOnZeros}
use Rattle.batch.proofs.Batch.run.Goals as goal

-- what was run of a script was run of one that is the same
run_of : {B : Type 0} {holding : B → Holdings} {R : B → Move → B → Type 0} {picture : B → Picture} {book : B} {s s' report report' : List ℕ} {r : Ran} → s ≡ s' → RanOnZeros holding R picture book s report report' r → RanOnZeros holding R picture book s' report report' r
run_of {B} {holding} {R} {picture} {book} {s} {s'} {report} {report'} {r} e ran = subst (λ (t : List ℕ). RanOnZeros holding R picture book t report report' r) e ran

pub returns-clause-rows : goal.returns-clause-rows
returns-clause-rows c = record {
  after = c.run-ran.new.report;
  ran = c.run-ran.result;
  kept = record {
    book = c.new.result;
    fresh = c.new.ensures;
    promised = run_of c.front-script.ensures.value c.run-ran.ensures;
  };
  rows_are = refl;
  stopped = c.line_in.ensures;
}
