-- `node::eight_names` meets its contract.
use mathlib.Core.Path.{sym}
use Rattle.node.proofs.Slots.{names_at}
use Rattle.node.proofs.slot.eight_names.Goals as goal

pub returns : goal.returns
returns c =
    rw (← names_at c.args.w (sym c.requires.0)) (c.insert_byte.ensures 7 c.requires.1)
