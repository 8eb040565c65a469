-- The levels that are left.
use mathlib.Core.Path.{refl, ap}
use native.Mathlib.Omega.{arith}
use Rattle.change.specs.Put.{needed}
use Rattle.change.proofs.Counts.{needed_full, needed_room}
use Rattle.split.proofs.Eights.{node_full, node_room}
use Rattle.split.proofs.Splits.{no_levels, some_levels, first_of, rest_of}
use Rattle.split.proofs.rising.+nodes_needed.Goals as goal

pub returns-in-empty : goal.returns-in-empty
unfolding needed
returns-in-empty t c = rw (no_levels c.args.levels.now c.in-empty.len_below) (refl, omega arith)

pub returns-then-count-eq-ENTRIES : goal.returns-then-count-eq-ENTRIES
returns-then-count-eq-ENTRIES t c =
    let m = c.args.pool.now in
    let ks = c.args.levels.now in
    let split = some_levels ks c.in-len1-up.len_at_least in
    let e = c.at.ensures in
    let t = node_full (rw split at c.requires.1).0 c.at.result e.pool e.number c.count.ensures c.if-count-eq-ENTRIES.true in
    let n = c.nodes_needed.ensures in
    (omega (arith, n.0, ap (needed m) split, needed_full m (first_of ks) (rest_of ks) t), omega (arith, n.1))

pub returns-else-count-eq-ENTRIES : goal.returns-else-count-eq-ENTRIES
returns-else-count-eq-ENTRIES t c =
    let m = c.args.pool.now in
    let ks = c.args.levels.now in
    let split = some_levels ks c.in-len1-up.len_at_least in
    let e = c.at.ensures in
    let t = node_room (rw split at c.requires.1).0 c.at.result e.pool e.number c.count.ensures c.if-count-eq-ENTRIES.false in
    (omega (arith, ap (needed m) split, needed_room m (first_of ks) (rest_of ks) t), omega arith)
