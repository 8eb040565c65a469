use mathlib.Core.Path.{◌≡◌}
use Prim.Native.Nat.{◌-◌}
use Rattle.node.specs.Lists.{lowest_from}
use Rattle.node.specs.Slot.{bytes, entries, spot}
use Rattle.node.proofs.slot.spot_of.Given as goal

abbrev pub invariant-loop-i : goal.invariant-loop-i
invariant-loop-i l = spot (bytes l.n l.names) ≡ lowest_from l.i (entries - l.i) (bytes l.n l.names)
