use mathlib.Core.Path.{◌≡◌}
use Rattle.change.specs.Recover.{all_may_store}
use Rattle.split.specs.inner.Pairs.{pairs_of}
use Rattle.pool.proofs.Recovers.{tested}
use Rattle.pool.proofs.recovering.log_of.Given as goal

abbrev pub invariant-loop-address : goal.invariant-loop-address
invariant-loop-address l = all_may_store l.total (pairs_of l.log) ≡ tested l.total l.log l.address-index
