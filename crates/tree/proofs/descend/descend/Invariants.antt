use Prim.Native.Nat.{◌-◌, ◌≤◌}
use Rattle.tree.proofs.Ways.{On}
use Rattle.tree.proofs.descend.descend.Given as goal

abbrev pub invariant-loop-left : goal.invariant-loop-left
invariant-loop-left l = (1 ≤ l.left) × On l.pool l.key (l.left - 1) l.step
