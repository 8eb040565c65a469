-- `pool::replace` meets its contract.
use native.Mathlib.Omega.{arith}
use Rattle.pool.proofs.Puts.{entry_low}
use Rattle.pool.proofs.putting.replace.Goals as goal

pub value_at-requires : goal.value_at-requires
value_at-requires c =
    let low = entry_low _ _ c.requires.rank_bound c.name-entry.ensures in
    (c.requires.room.1, omega (arith, low))

pub once-requires : goal.once-requires
once-requires c =
    let low = entry_low _ _ c.requires.rank_bound c.name-entry.ensures in
    (omega (arith, c.requires.room.0), omega (arith, c.value_at.ensures, c.requires.room.1))
