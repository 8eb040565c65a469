-- Seven calls, one after the other.
use Rattle.words.specs.Blocks.{lines}
use Rattle.words.proofs.Written.{wrote_append}
use Rattle.pool.proofs.formatting.fresh_leaf.Goals as goal

pub returns : goal.returns
unfolding lines
returns c =
    wrote_append c.store.ensures (wrote_append c.store-2.ensures (wrote_append c.store-3.ensures
    (wrote_append (rw c.line.ensures at c.flush.ensures) (wrote_append (rw c.line-2.ensures at c.flush-2.ensures)
    (wrote_append (rw c.line-3.ensures at c.flush-3.ensures) c.fence.ensures)))))
