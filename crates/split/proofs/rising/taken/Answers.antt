-- The pairs by the law `takes`.
use native.Mathlib.Omega.{arith}
use Rattle.split.proofs.Eights.{rank_le}
use Rattle.split.proofs.Levels.{takes}
use Rattle.split.proofs.rising.taken.Goals as goal

pub with_name-requires : goal.with_name-requires
with_name-requires c =
    (c.requires.1, omega (arith, c.rank_of-rank.ensures, c.args.node.slot_is, rank_le c.requires.0 c.args.up.0), omega arith)

pub returns : goal.returns
returns c =
    let a = c.args in
    takes a.node.pool.now a.node.number a.used a.up a.node.slot_is c.rank_of-rank.ensures c.spot-free.ensures.0 c.note_entry.ensures
    (rw (c.node_at.ensures, c.with_name.ensures) at c.note.ensures) c.note-2.ensures
