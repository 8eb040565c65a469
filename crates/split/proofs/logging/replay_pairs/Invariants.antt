use Prim.Native.Nat.{◌+◌, ◌*◌}
use mathlib.Core.Path.{◌≡◌}
use lib.ListN.{drop}
use Rattle.words.specs.Blocks.{replay}
use Rattle.split.specs.inner.Pairs.{pairs_of}
use Rattle.split.proofs.Loops.{Left}
use Rattle.split.proofs.logging.replay_pairs.Given as goal

abbrev pub invariant-loop-address : goal.invariant-loop-address
invariant-loop-address l =
    (l.list.events ≡ l.initial.list.events + 2 * l.address-index)
    × Left (replay (pairs_of l.pairs)) l.initial.list (replay (pairs_of (drop l.address-index l.pairs))) l.list
