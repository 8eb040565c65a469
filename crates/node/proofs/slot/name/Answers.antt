-- `node::name` meets its contract.
use mathlib.Core.Path.{◌∙◌}
use Rattle.node.proofs.Slots.{name_at}
use Rattle.node.proofs.slot.name.Goals as goal

pub returns : goal.returns
returns c =
    c.byte_at.ensures ∙ name_at c.args.w c.args.i c.requires.0 c.requires.1
