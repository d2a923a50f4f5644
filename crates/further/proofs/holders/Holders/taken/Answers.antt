use Rattle.std.proofs.Common.{arith}
use Rattle.further.proofs.Sets.{store_granted}
use Rattle.further.proofs.holders.Holders.taken.Goals as goal

pub returns-in-None : goal.returns-in-None
returns-in-None c =
    rw (c.in-Readers-Store.is-0, c.in-Readers-Store.is-1)
    (store_granted c.in-Readers-Store.set c.without.result c.args.thread (omega arith) c.without.ensures c.in-None.ensures)
