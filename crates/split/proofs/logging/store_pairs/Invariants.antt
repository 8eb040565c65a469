use Prim.Native.Nat.{◌+◌, ◌*◌}
use mathlib.Core.Path.{◌≡◌}
use lib.ListN.{drop}
use Rattle.words.specs.Pool.{pairs_at}
use Rattle.words.specs.Blocks.{stores}
use Rattle.change.specs.Plan.{log_words}
use Rattle.split.specs.inner.Pairs.{pairs_of}
use Rattle.split.proofs.Loops.{Left}
use Rattle.split.proofs.logging.store_pairs.Given as goal

abbrev pub invariant-loop-address : goal.invariant-loop-address
invariant-loop-address l =
    (l.word ≡ pairs_at + 2 * l.address-index) × (l.list.events ≡ l.initial.list.events + 2 * l.address-index)
    × Left (stores (log_words pairs_at (pairs_of l.pairs))) l.initial.list
    (stores (log_words l.word (pairs_of (drop l.address-index l.pairs)))) l.list
