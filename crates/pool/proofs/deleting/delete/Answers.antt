-- `pool::delete` meets its contract: each return goes by the tests before it.
use borrow.Author.Rules.{rules}
use native.Mathlib.Omega.{arith}
use mathlib.Core.Path.{◌∙◌}
use Rattle.std.proofs.lemmas.Result.{err_from_is_err_and}
use Rattle.tree.proofs.Leaves.{rank_there}
use Rattle.change.specs.Answers.{answer_says}
use Rattle.pool.proofs.Planning.{said, quiet_answer, planned_answer}
use Rattle.pool.proofs.Gates.{found_leaf, call_short, call_shut, call_at}
use Rattle.pool.proofs.Deletes.{delete_absent, delete_removed}
use Rattle.pool.proofs.deleting.delete.Goals as goal

pub returns-in_err-pass_list : goal.returns-in_err-pass_list
returns-in_err-pass_list c =
    let p = err_from_is_err_and c.from_residual.result c.from_residual.ensures.1 in
    rw (p.1, p.2) (said answer_says (quiet_answer _ _ _ (call_short _ _ _ _ c.in_err-pass_list.ensures)))

pub returns-in_err-seat : goal.returns-in_err-seat
returns-in_err-seat c =
    let p = err_from_is_err_and c.from_residual-in_err-seat.result c.from_residual-in_err-seat.ensures.1 in
    rw (p.1, p.2)
    (said answer_says (quiet_answer _ _ _ (call_shut _ _ _ _ c.in_ok-pass_list.ensures c.in_err-seat.ensures)))

pub returns-in_default : goal.returns-in_default
returns-in_default c =
    let p = c.in_ok-seat.ensures in
    said answer_says (quiet_answer _ _ _
    (call_at _ _ _ _ c.in_ok-pass_list.ensures p ∙ delete_absent (found_leaf p) _ c.in_default.is))

pub without_name-slot-requires : goal.without_name-slot-requires
without_name-slot-requires c =
    let a = found_leaf c.in_ok-seat.ensures in
    (rank_there a c.in-Ok.is, a.named.few)

pub node_at-requires : goal.node_at-requires
node_at-requires c = (found_leaf c.in_ok-seat.ensures).named.inside.most

pub once-requires : goal.once-requires
once-requires c =
    let h = (found_leaf c.in_ok-seat.ensures).named.inside in
    (omega (arith, c.new-list.ensures.events), omega (arith, c.node_at.ensures, h.most))

pub returns : goal.returns
returns c =
    let p = c.in_ok-seat.ensures in
    let e = delete_removed (found_leaf p) _ c.in-Ok.is c.node_at.ensures c.without_name-slot.ensures in
    let n = c.new-list.ensures in
    said answer_says
    (planned_answer _ _ _ (call_at _ _ _ _ c.in_ok-pass_list.ensures p ∙ e) c.once.ensures n.list n.events (search rules))
