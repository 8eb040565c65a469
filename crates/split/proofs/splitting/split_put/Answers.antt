-- The leaf, the levels above it, and the log.
use native.Mathlib.Omega.{arith}
use Rattle.change.specs.Put.{split}
use Rattle.split.proofs.Eights.{node_slot, full_count}
use Rattle.split.proofs.Splits.{first_of, rest_of, rest_is}
use Rattle.split.proofs.Splits.{split_counts, leaf_met, leaf_room, leaf_ready, leaf_done, planned_few, done_room, plan_written}
use Rattle.split.proofs.splitting.split_put.Goals as goal

pub of-eight-requires : goal.of-eight-requires
of-eight-requires c =
    let p = c.requires.0 in
    let met = leaf_met p in
    let n = c.at.ensures in
    let w = node_slot c.at.result n.pool n.number in
    (rw (n.pool, n.number) met, rw w (full_count met p.full_is), rw (n.pool, n.number) p.rank_is)

pub overflow_add-pool : goal.overflow_add-pool
overflow_add-pool c = omega (arith, (split_counts c.requires.0).1)

pub split_leaf-up-requires : goal.split_leaf-up-requires
split_leaf-up-requires c = rw c.new-log.ensures (leaf_room c.requires.0 c.requires.1)

pub risen-requires : goal.risen-requires
risen-requires c =
    let e = c.of-eight.ensures in
    let n = c.at.ensures in
    leaf_ready c.requires.0 c.args.new c.requires.1 (rw (e.0, e.1, e.2, n.pool, n.number, c.new-log.ensures) at c.split_leaf-up.ensures)

pub write-requires : goal.write-requires
write-requires c =
    let a = c.args in
    let e = c.of-eight.ensures in
    let n = c.at.ensures in
    let v = rw (e.0, e.1, e.2, n.pool, n.number, c.new-log.ensures) at c.split_leaf-up.ensures in
    let few = planned_few c.requires.0 a.new in
    done_room (split a.pool.now (first_of a.path.now) (rest_of a.path.now) a.new) (leaf_done c.requires.0 a.new v c.risen.ensures)
    c.requires.1 few.0 few.2

pub returns : goal.returns
returns c =
    let a = c.args in
    let e = c.of-eight.ensures in
    let n = c.at.ensures in
    let v = rw (e.0, e.1, e.2, n.pool, n.number, c.new-log.ensures) at c.split_leaf-up.ensures in
    rw (← rest_is a.path.now)
    (plan_written (split a.pool.now (first_of a.path.now) (rest_of a.path.now) a.new) (leaf_done c.requires.0 a.new v c.risen.ensures)
    c.write.ensures)
