use Rattle.examples.proofs.Figures.{aborted_on_board, aborted_on_full, committed_on_board, committed_on_full}
use Rattle.examples.proofs.worked_examples.Goals as goal

pub returns-clause-jobs : goal.returns-clause-jobs
returns-clause-jobs c =
    record {
      aborted_on_board = aborted_on_board _ c.new.result c.new.ensures c.abort_two_stores.ensures;
      aborted_on_full = aborted_on_full _ c.new-2.result c.new-2.ensures c.abort_two_stores-2.ensures;
      committed_on_board = committed_on_board _ c.new-3.result c.new-3.ensures c.commit_load_and_store.ensures;
      committed_on_full = committed_on_full _ c.new-4.result c.new-4.ensures c.commit_load_and_store-2.ensures;
    }
