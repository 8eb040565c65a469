-- `pool::check` meets its contract: each return goes by the tests before it.
use mathlib.Core.Path.{sym, ◌∙◌}
use native.Mathlib.Omega.{arith}
use Rattle.tree.proofs.Form.{form}
use Rattle.pool.proofs.Gates.{whole_pool}
use Rattle.pool.proofs.Checks.{examined, check_short, check_damaged, check_walked}
use Rattle.pool.proofs.checking.check.Goals as goal

pub bounds-pool : goal.bounds-pool
bounds-pool c = let h = (form _ (whole_pool _ c.in_ok-pass_pool.ensures).0).least in omega arith

pub returns-then-marks-pool : goal.returns-then-marks-pool
returns-then-marks-pool c = examined (check_short _ _ c.in_ok-pass_pool.ensures c.if-marks-pool.true)

pub counts_agree-requires : goal.counts_agree-requires
counts_agree-requires c = (form _ (whole_pool _ c.in_ok-pass_pool.ensures).0).least

pub returns-then-not-counts_agree : goal.returns-then-not-counts_agree
returns-then-not-counts_agree c =
    let bad = sym c.counts_agree.ensures ∙ c.if-not-counts_agree.true in
    examined (check_damaged _ _ c.in_ok-pass_pool.ensures c.if-marks-pool.false bad)

pub returns : goal.returns
returns c =
    let good = sym c.counts_agree.ensures ∙ c.if-not-counts_agree.false in
    let r = c.check_tree.ensures in
    examined (check_walked _ _ c.in_ok-pass_pool.ensures c.if-marks-pool.false good r.answer r.marks)
