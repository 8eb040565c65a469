-- Three calls, one after the other.
use Rattle.words.proofs.Written.{wrote_append}
use Rattle.change.proofs.Lines.{stored_node}
use Rattle.split.proofs.building.new_root.Goals as goal

pub returns : goal.returns
returns c =
    rw (stored_node _ _ _)
    (wrote_append c.write_head.ensures (wrote_append c.write_entry.ensures
    (rw (c.line.ensures, c.node_at.ensures) at c.flush.ensures)))
