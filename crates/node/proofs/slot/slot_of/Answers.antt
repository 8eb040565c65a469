-- `node::slot_of` meets its contract.
use Rattle.node.proofs.Slots.{slot_joined}
use Rattle.node.proofs.slot.slot_of.Goals as goal

pub returns : goal.returns
returns c =
    rw c.low_bytes.ensures (slot_joined c.args.names c.args.n c.requires)
