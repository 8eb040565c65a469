-- `node::spot` meets its contract.
use mathlib.Core.Path.{◌∙◌, ap}
use Rattle.node.specs.Slot.{spot}
use Rattle.node.proofs.Slots.{names_at}
use Rattle.node.proofs.slot.spot.Goals as goal

pub returns : goal.returns
returns c =
    let s = c.args in
    (c.spot_of.ensures.0 ∙ ap spot (names_at s.w c.count.ensures), c.spot_of.ensures.1)
