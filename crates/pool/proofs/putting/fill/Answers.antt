-- `pool::fill` meets its contract: five calls, one after the other.
use Rattle.pool.proofs.Puts.{filled}
use Rattle.pool.proofs.putting.fill.Goals as goal

pub returns : goal.returns
returns c =
    λ u s.
    filled s _ _ c.spot-entry.ensures.0 c.key_at.ensures c.value_at-word.ensures c.line.ensures c.node_at.ensures
    c.with_name-slot.ensures c.store.ensures c.store-2.ensures c.flush.ensures c.fence.ensures c.once.ensures
