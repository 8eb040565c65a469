-- The names by the slot word.
use mathlib.Core.Path.{◌∙◌, ap}
use native.Mathlib.Omega.{arith}
use Rattle.node.specs.Slot.{spot}
use Rattle.node.proofs.Slots.{names_take}
use Rattle.split.proofs.Eights.{rank_le, opened_in}
use Rattle.split.proofs.opening.Eight.of.Goals as goal

pub eight_names-requires : goal.eight_names-requires
eight_names-requires c =
    let p = c.requires in
    (p.1, omega (arith, c.args.node.slot_is, p.1, p.2, rank_le p.0 c.args.new.0), omega arith)

pub invariant_of-result : goal.invariant_of-result
invariant_of-result c =
    let p = c.requires in
    let w = c.args.node in
    let three = names_take w.slot 3 (omega arith) in
    record { opened = opened_in p.0 w.slot_is p.1 p.2 (c.spot_of-spot.ensures.0 ∙ ap spot three) c.eight_names.ensures }
