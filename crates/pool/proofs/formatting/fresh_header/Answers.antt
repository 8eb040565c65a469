-- Seven calls, one after the other.
use Rattle.words.proofs.Written.{wrote_append}
use Rattle.pool.proofs.formatting.fresh_header.Goals as goal

pub returns : goal.returns
returns c =
    wrote_append (rw c.total_of.ensures at c.store.ensures) (wrote_append c.store-2.ensures (wrote_append c.store-3.ensures
    (wrote_append c.store-4.ensures (wrote_append c.store-5.ensures (wrote_append c.store-6.ensures c.store-7.ensures)))))
