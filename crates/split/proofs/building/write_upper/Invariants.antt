use Prim.Native.Nat.{◌-◌, ◌+◌, ◌*◌}
use mathlib.Core.Path.{◌≡◌}
use lib.ListN.{drop}
use Rattle.words.specs.Blocks.{stores}
use Rattle.change.specs.Steps.{laid}
use Rattle.split.specs.inner.Splitting.{eight_of}
use Rattle.split.proofs.Loops.{Left}
use Rattle.split.proofs.building.write_upper.Given as goal

abbrev pub invariant-loop-i : goal.invariant-loop-i
invariant-loop-i l =
    let rs = eight_of l.eight in
    (l.list.events ≡ l.initial.list.events + 2 * (l.i - l.from))
    × Left (stores (laid l.new 0 (drop l.from rs))) l.initial.list (stores (laid l.new (l.i - l.from) (drop l.i rs))) l.list
