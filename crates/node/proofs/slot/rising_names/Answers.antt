-- `node::rising_names` meets its contract.
use mathlib.Core.Path.{◌∙◌, ap}
use Rattle.node.specs.Slot.{slot}
use Rattle.node.proofs.Slots.{rising_bytes}
use Rattle.node.proofs.slot.rising_names.Goals as goal

pub returns : goal.returns
returns c = c.slot_of.ensures ∙ ap slot (rising_bytes c.args.n c.requires)
