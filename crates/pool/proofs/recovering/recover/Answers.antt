-- `pool::recover` meets its contract: each return goes by the tests before it.
use native.Mathlib.Omega.{arith}
use borrow.Author.Rules.{rules}
use Rattle.std.proofs.lemmas.Result.{err_from_is_err_and}
use Rattle.tree.specs.Header.{commit_of}
use Rattle.tree.proofs.Form.{form}
use Rattle.change.specs.declared.Recovery.TheVariants.{Recovered}
use Rattle.change.specs.Answers.{recovery_says}
use Rattle.pool.proofs.Planning.{said, quietly, planned}
use Rattle.pool.proofs.Gates.{a_pool}
use Rattle.pool.proofs.Recovers.{recover_short, recover_no_pool, recover_clean, recover_bad_log, recover_done}
use Rattle.pool.proofs.Recovers.{log_few, log_near}
use Rattle.pool.proofs.recovering.recover.Goals as goal

pub returns-in_err-pass_list : goal.returns-in_err-pass_list
returns-in_err-pass_list c =
    let p = err_from_is_err_and c.from_residual.result c.from_residual.ensures.1 in
    rw (p.1, p.2) (said recovery_says (quietly _ _ _ (recover_short _ _ c.in_err-pass_list.ensures)))

pub returns-in_err-pass_form : goal.returns-in_err-pass_form
returns-in_err-pass_form c =
    let p = err_from_is_err_and c.from_residual-in_err-pass_form.result c.from_residual-in_err-pass_form.ensures.1 in
    rw (p.1, p.2) (said recovery_says (quietly _ _ _ (recover_no_pool _ _ c.in_ok-pass_list.ensures c.in_err-pass_form.ensures)))

pub bounds-pool : goal.bounds-pool
bounds-pool c = let h = (form _ (a_pool _ c.in_ok-pass_form.ensures)).least in omega arith

pub returns-then-pairs-eq0 : goal.returns-then-pairs-eq0
returns-then-pairs-eq0 c =
    said recovery_says (quietly _ _ _ (recover_clean _ _ c.in_ok-pass_list.ensures c.in_ok-pass_form.ensures c.if-pairs-eq0.true))

pub log_of-requires : goal.log_of-requires
log_of-requires c = (form _ (a_pool _ c.in_ok-pass_form.ensures)).least

pub returns-in_err-log : goal.returns-in_err-log
returns-in_err-log c =
    let p = err_from_is_err_and c.from_residual-in_err-log.result c.from_residual-in_err-log.ensures.1 in
    let bad = c.in_err-log.ensures in
    let e = recover_bad_log _ _ c.in_ok-pass_list.ensures c.in_ok-pass_form.ensures c.if-pairs-eq0.false bad.0 in
    rw (p.1, p.2, bad.1) (said recovery_says (quietly _ _ _ e))

pub finish_log-requires : goal.finish_log-requires
finish_log-requires c =
    let q = c.in_ok-log.ensures in
    let qs = c.in_ok-log.log.now in
    let formed = a_pool _ c.in_ok-pass_form.ensures in
    (omega (arith, c.new-list.ensures.events, log_few _ qs q.0 q.1), log_near _ qs q.0 q.1 formed)

pub returns : goal.returns
returns c =
    let q = c.in_ok-log.ensures in
    let e = recover_done _ _ c.in_ok-pass_list.ensures c.in_ok-pass_form.ensures c.if-pairs-eq0.false q.0 in
    let n = c.new-list.ensures in
    said recovery_says
    (planned _ (Recovered (commit_of c.args.pool.now)) _ e (rw q.1 at c.finish_log.ensures) n.list n.events (search rules))
