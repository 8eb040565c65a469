-- `node::without_name` meets its contract.
use mathlib.Core.Path.{◌∙◌, ap}
use Rattle.node.specs.Slot.{slot}
use Rattle.node.proofs.Slots.{name_taken}
use Rattle.node.proofs.slot.without_name.Goals as goal

pub returns : goal.returns
returns c =
    c.slot_of.ensures
    ∙ ap slot (name_taken c.args.w _ c.args.rank c.count.ensures c.remove_byte-names.ensures c.requires.0)
