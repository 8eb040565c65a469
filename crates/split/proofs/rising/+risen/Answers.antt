-- The levels that are left.
use native.Mathlib.Omega.{arith}
use borrow.Author.Rules.{rules}
use Rattle.split.proofs.Eights.{node_slot, met_count, node_full, node_room}
use Rattle.split.proofs.Levels.{rise_full, rise_room, rise_top}
use Rattle.split.proofs.Splits.{no_levels, some_levels, first_of, rest_of}
use Rattle.split.proofs.Splits.{ready_counts, ready_top, ready_first, ready_pairs, ready_full, ready_on}
use Rattle.split.proofs.rising.+risen.Goals as goal

pub bounds-pool : goal.bounds-pool
bounds-pool t c = omega (arith, (ready_counts c.requires).0)

pub overflow_add-new : goal.overflow_add-new
overflow_add-new t c = omega (arith, (ready_counts c.requires).1)

pub overflow_add-new-2 : goal.overflow_add-new-2
overflow_add-new-2 t c = omega (arith, (ready_counts c.requires).1)

pub crowned-requires : goal.crowned-requires
crowned-requires t c =
    let n = ready_counts c.requires in
    (n.0, n.2, ready_top (rw (no_levels c.args.levels.now c.in-empty.len_below) at c.requires))

pub returns-in-empty : goal.returns-in-empty
returns-in-empty t c =
    let a = c.args in
    rw (no_levels a.levels.now c.in-empty.len_below) (rise_top a.pool.now a.split a.up c.crowned.ensures)

pub split_inner-next-requires : goal.split_inner-next-requires
split_inner-next-requires t c =
    let rd = ready_first c.requires c.in-len1-up.len_at_least in
    let n = c.at-node.ensures in
    ready_full rd (node_full rd.nodes.0 c.at-node.result n.pool n.number c.count.ensures c.if-count-eq-ENTRIES.true)

pub risen-requires : goal.risen-requires
risen-requires t c =
    let rd = ready_first c.requires c.in-len1-up.len_at_least in
    let n = c.at-node.ensures in
    let full = node_full rd.nodes.0 c.at-node.result n.pool n.number c.count.ensures c.if-count-eq-ENTRIES.true in
    let e = c.of-eight.ensures in
    (search rules, ready_on rd full c.args.up (rw (e.0, e.1, e.2, n.pool, n.number) at c.split_inner-next.ensures))

pub taken-requires : goal.taken-requires
taken-requires t c =
    let rd = ready_first c.requires c.in-len1-up.len_at_least in
    let n = c.at-node.ensures in
    let w = node_slot c.at-node.result n.pool n.number in
    let few = met_count rd.nodes.0 in
    (rw (n.pool, n.number) rd.nodes.0, omega (arith, few, w, c.count.ensures, c.if-count-eq-ENTRIES.false), ready_pairs rd)

pub returns-then-count-eq-ENTRIES : goal.returns-then-count-eq-ENTRIES
returns-then-count-eq-ENTRIES t c =
    let a = c.args in
    let rd = ready_first c.requires c.in-len1-up.len_at_least in
    let n = c.at-node.ensures in
    let full = node_full rd.nodes.0 c.at-node.result n.pool n.number c.count.ensures c.if-count-eq-ENTRIES.true in
    let e = c.of-eight.ensures in
    rw (some_levels a.levels.now c.in-len1-up.len_at_least)
    (rise_full a.pool.now a.split a.up (first_of a.levels.now) (rest_of a.levels.now) full
    (rw (e.0, e.1, e.2, n.pool, n.number) at c.split_inner-next.ensures) c.risen.ensures)

pub returns-else-count-eq-ENTRIES : goal.returns-else-count-eq-ENTRIES
returns-else-count-eq-ENTRIES t c =
    let a = c.args in
    let rd = ready_first c.requires c.in-len1-up.len_at_least in
    let n = c.at-node.ensures in
    let room = node_room rd.nodes.0 c.at-node.result n.pool n.number c.count.ensures c.if-count-eq-ENTRIES.false in
    rw (some_levels a.levels.now c.in-len1-up.len_at_least)
    (rise_room a.pool.now a.split a.up (first_of a.levels.now) (rest_of a.levels.now) room (omega arith)
    (rw (n.pool, n.number) at c.taken.ensures))
