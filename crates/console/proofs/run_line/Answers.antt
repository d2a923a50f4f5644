use Rattle.std.proofs.Common.{refl}
use Rattle.threads.proofs.Logs.{fits_table}
use Rattle.store.specs.States.{state_of}
use Rattle.console.proofs.OneLine.{within_answered, carries_call, travels_call, carries_refused, travels_refused}
use Rattle.console.proofs.run_line.Goals as goal

pub returns-in_err-parse-clause-step : goal.returns-in_err-parse-clause-step
returns-in_err-parse-clause-step g c =
    carries_refused 0 c.args.line.now _ _ c.in_err-parse.ensures _

pub returns-in_err-parse-clause-own : goal.returns-in_err-parse-clause-own
returns-in_err-parse-clause-own g c =
    travels_refused 0 c.args.line.now _ _ c.in_err-parse.ensures g.B.Book.holding g.B.Book.moves _ c.args.store.now.book

pub returns-clause-within : goal.returns-clause-within
returns-clause-within g c =
    within_answered (state_of g.M.Memory.words g.B.Book.holding c.args.store.now) (fits_table c.args.store.now.table) c.in_ok-parse.field-0 c.call.result c.call.ensures.answer

pub returns-clause-step : goal.returns-clause-step
returns-clause-step g c =
    carries_call 0 c.args.line.now _ _ c.in_ok-parse.ensures _ _ c.call.ensures.step

pub returns-clause-own : goal.returns-clause-own
returns-clause-own g c =
    travels_call 0 c.args.line.now _ _ c.in_ok-parse.ensures g.B.Book.holding g.B.Book.moves _ _ _ refl c.call.ensures.leaves.moved
