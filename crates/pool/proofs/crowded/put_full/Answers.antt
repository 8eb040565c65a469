-- `pool::put_full` meets its contract: each return goes by the nodes that are needed.
use mathlib.Core.Path.{sym}
use borrow.Author.Rules.{rules}
use native.Mathlib.Omega.{arith}
use Rattle.tree.proofs.Form.{counts}
use Rattle.pool.proofs.Planning.{quiet_answer, planned_answer}
use Rattle.pool.proofs.Fulls.{counts_hold, path_met, path_long, to_split, full_crowded, full_high, full_split}
use Rattle.pool.proofs.crowded.put_full.Goals as goal

pub slice_bounds-path-end : goal.slice_bounds-path-end
slice_bounds-path-end c = omega (arith, (counts _ (counts_hold c.requires.0)).height.1, c.path_to-path.ensures.eight_is)

pub slice_bounds-path-end-2 : goal.slice_bounds-path-end-2
slice_bounds-path-end-2 c = sym (path_long c.requires.0 c.path_to-path.ensures)

pub nodes_needed-needed-requires : goal.nodes_needed-needed-requires
nodes_needed-needed-requires c =
    let met = path_met c.requires.0 c.path_to-path.ensures (λ i. omega (arith, c.type_inv.pool i)) in
    (omega (arith, path_long c.requires.0 c.path_to-path.ensures, (counts _ (counts_hold c.requires.0)).height.1), met)

pub overflow_sub-pool : goal.overflow_sub-pool
overflow_sub-pool c = (counts _ (counts_hold c.requires.0)).used.1

pub returns-then-pool-needed : goal.returns-then-pool-needed
returns-then-pool-needed c =
    let e = full_crowded c.requires.0 c.path_to-path.ensures c.nodes_needed-needed.ensures.0 _ c.if-pool-needed.true in
    let both = quiet_answer _ _ _ e in
    record { answer = both.0; list = both.1 }

pub returns-then-needed-gt-HEIGHT_MOST : goal.returns-then-needed-gt-HEIGHT_MOST
returns-then-needed-gt-HEIGHT_MOST c =
    let e = full_high c.requires.0 c.path_to-path.ensures c.nodes_needed-needed.ensures.0 _ c.if-pool-needed.false
    c.if-needed-gt-HEIGHT_MOST.true in
    let both = quiet_answer _ _ _ e in
    record { answer = both.0; list = both.1 }

pub split_put-requires : goal.split_put-requires
split_put-requires c = (
  to_split c.requires.0 c.path_to-path.ensures c.nodes_needed-needed.ensures.0 (λ i. omega (arith, c.type_inv.pool i))
      c.if-needed-gt-HEIGHT_MOST.false c.if-pool-needed.false,
  c.new-list.ensures.events,
)

pub returns : goal.returns
returns c =
    let e = full_split c.requires.0 c.path_to-path.ensures c.nodes_needed-needed.ensures.0 _ c.if-pool-needed.false
    c.if-needed-gt-HEIGHT_MOST.false in
    let n = c.new-list.ensures in
    let both = planned_answer _ _ _ e c.split_put.ensures n.list n.events (search rules) in
    record { answer = both.0; list = both.1 }
