use Rattle.lent.proofs.run.Goals as goal

pub returns : goal.returns
returns g c = record {
  memory = c.filled-table.result;
  zeros = c.filled-table.ensures;
  store = c.run_fresh-store.result.0;
  ran = c.run_fresh-store.ensures;
}
