-- `node::with_name` meets its contract.
use mathlib.Core.Path.{◌∙◌, ap}
use Rattle.node.specs.Slot.{slot}
use Rattle.node.proofs.Slots.{name_put}
use Rattle.node.proofs.slot.with_name.Goals as goal

pub returns : goal.returns
returns c =
    c.slot_of.ensures
    ∙ ap slot (name_put c.args.w _ c.args.rank c.count.ensures c.args.e c.insert_byte-names.ensures c.requires.1)
