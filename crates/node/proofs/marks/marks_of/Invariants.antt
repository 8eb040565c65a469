use mathlib.Core.Path.{◌≡◌}
use mathlib.Core.Bool.{◌||◌}
use Prim.Native.Nat.{ℕ, ◌<◌, ◌-◌}
use Rattle.node.specs.Lists.{has}
use Rattle.node.specs.Slot.{bytes}
use Rattle.node.specs.inner.Marks.{marked}
use Rattle.node.proofs.marks.marks_of.Given as goal

abbrev pub invariant-loop : goal.invariant-loop
invariant-loop l =
    (x : ℕ) → x < 64 → has x (bytes l.n l.names) ≡ (marked l.seen x || has x (bytes (l.n - l.counter) l.rest))
