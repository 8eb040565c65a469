-- `tree::descend` meets its contract: a node a turn.
use mathlib.Core.Path.{◌≡◌, ◌∙◌, sym}
use mathlib.Core.Bool.{true}
use Prim.Native.Nat.{suc, ◌-◌}
use native.Mathlib.Omega.{arith}
use Rattle.std.proofs.lemmas.Result.{err_from_is_err_and}
use Rattle.node.proofs.Views.{good_sound}
use Rattle.tree.specs.Header.{counts_agree}
use Rattle.tree.specs.Kids.{leaf_least, inner_least}
use Rattle.tree.specs.inner.Descended.{MetGood}
use Rattle.tree.proofs.Form.{form, counts}
use Rattle.tree.proofs.Kids.{sound_names, few_before}
use Rattle.tree.proofs.Ways.{On, least_is, bad_header, at_root, ends_at, good_node, leaf_is, some_covered, go_down}
use Rattle.tree.proofs.descend.descend.Goals as goal
use Rattle.tree.proofs.descend.descend.Goals.{Else-not-counts_agree, Then-left-eq0, Else-left-eq0}

-- the header agrees
counted : (c : Else-not-counts_agree) → counts_agree c.args.pool.now ≡ true
counted c = sym c.counts_agree.ensures ∙ c.if-not-counts_agree.false

pub counts_agree-requires : goal.counts_agree-requires
counts_agree-requires c = (form _ c.requires).least

pub returns-then-not-counts_agree : goal.returns-then-not-counts_agree
returns-then-not-counts_agree c = bad_header _ _ (sym c.counts_agree.ensures ∙ c.if-not-counts_agree.true)

pub bounds-pool : goal.bounds-pool
bounds-pool c = let h = (form _ c.requires).least in omega arith

pub bounds-pool-2 : goal.bounds-pool-2
bounds-pool-2 c = let h = (form _ c.requires).least in omega arith

pub loop-left-init : goal.loop-left-init
loop-left-init c =
    let k = counted (goal.at.loop-left-init c).Else-not-counts_agree in
    ((counts _ k).height.0, at_root _ _ c.ranges.key.fits k)

pub meet-requires : goal.meet-requires
meet-requires c =
    let o = c.loop-left.invariant.1 in
    (c.requires, counted (goal.at.meet-requires c).Else-not-counts_agree, omega (arith, o.low, o.high))

pub returns-in_err-node : goal.returns-in_err-node
returns-in_err-node c =
    let left = err_from_is_err_and c.from_residual.result c.from_residual.ensures.1 in
    rw (left.1, left.2) (ends_at _ _ c.loop-left.invariant.1 (rw least_is at c.in_err-node.ensures))

-- at the leaf, and at an inner node
at_leaf : (c : Then-left-eq0) → MetGood c.args.pool.now c.loop-left.step leaf_least c.args.key c.in_ok-node.node c.in_ok-node.seen
at_leaf c = rw (least_is, c.if-left-eq0.true) at c.in_ok-node.ensures

more : (c : Else-left-eq0) → c.loop-left.left - 1 ≡ suc (c.loop-left.left - 1 - 1)
more c = omega (arith, c.if-left-eq0.false)

on_inner : (c : Else-left-eq0) → On c.args.pool.now c.args.key (suc (c.loop-left.left - 1 - 1)) c.loop-left.step
on_inner c = rw (more c) at c.loop-left.invariant.1

at_inner : (c : Else-left-eq0) → MetGood c.args.pool.now c.loop-left.step inner_least c.args.key c.in_ok-node.node c.in_ok-node.seen
at_inner c = rw (least_is, more c) at c.in_ok-node.ensures

pub place-requires : goal.place-requires
place-requires c =
    let k = (goal.at.place-requires c).Then-left-eq0 in
    let g = at_leaf k in
    record {
      sound = rw (g.pool_is, g.number_is) (good_sound _ (good_node _ _ c.loop-left.invariant.1 g));
      after_value = rw (g.pool_is, g.number_is) g.seen_is.after_is;
    }

pub returns-then-left-eq0 : goal.returns-then-left-eq0
returns-then-left-eq0 c =
    let g = at_leaf (goal.at.returns-then-left-eq0 c).Then-left-eq0 in
    leaf_is _ _ (rw c.if-left-eq0.true at c.loop-left.invariant.1) g (rw (g.pool_is, g.number_is) at c.place.ensures)

pub down-step-requires : goal.down-step-requires
down-step-requires c =
    let k = (goal.at.down-step-requires c).Else-left-eq0 in
    let o = on_inner k in
    let g = at_inner k in
    let n = c.in_ok-node.node in (
      sound_names n (rw (g.pool_is, g.number_is) (good_sound _ (good_node _ _ o g))),
      few_before _ _ g.seen_is (rw (g.pool_is, g.number_is) at n.slot_is),
      rw (g.pool_is, g.number_is) (some_covered _ _ o g),
    )

pub loop-left-preserved : goal.loop-left-preserved
loop-left-preserved c =
    let k = (goal.at.loop-left-preserved c).Else-left-eq0 in
    let g = at_inner k in
    (omega (arith, c.if-left-eq0.false), go_down _ _ (on_inner k) g (rw (g.pool_is, g.number_is) at c.down-step.ensures))
