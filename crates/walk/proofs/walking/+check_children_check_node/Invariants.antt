-- ten for each level left, and one for each slot left, of which a node has at most eight
use Prim.Native.Nat.{◌+◌, ◌-◌, ◌*◌}
use Rattle.walk.proofs.walking.+check_children_check_node.Given as goal

abbrev pub decreases-check_children : goal.decreases-check_children
decreases-check_children l = l.levels * 10 + (9 - l.slot)

abbrev pub decreases-check_node : goal.decreases-check_node
decreases-check_node l = l.levels * 10
