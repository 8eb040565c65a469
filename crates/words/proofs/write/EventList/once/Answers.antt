-- Three calls, one after the other.
use Rattle.words.proofs.Written.{wrote_append}
use Rattle.words.proofs.write.EventList.once.Goals as goal

pub returns : goal.returns
returns c =
    let line = c.line.ensures in
    wrote_append c.store.ensures (wrote_append (rw line at c.flush.ensures) c.fence.ensures)
