-- `tree::path_to` meets its contract: a node a turn.
use native.Mathlib.Omega.{arith}
use Rattle.node.proofs.Views.{good_sound}
use Rattle.tree.proofs.Form.{form}
use Rattle.tree.proofs.Kids.{sound_names, few_before}
use Rattle.tree.proofs.Paths.{at_root, leaf_last, good_here, lies_inside, found_good, go_down}
use Rattle.tree.proofs.pathing.path_to.Goals as goal

pub bounds-pool : goal.bounds-pool
bounds-pool c = let h = (form _ c.requires.0).least in omega arith

pub bounds-pool-2 : goal.bounds-pool-2
bounds-pool-2 c = let h = (form _ c.requires.0).least in omega arith

pub loop-left-init : goal.loop-left-init
loop-left-init c = λ r. at_root _ _ r

pub offset_bounds-path-left : goal.offset_bounds-path-left
offset_bounds-path-left c = let h = (c.loop-left.invariant c.requires.1).low in omega arith

pub bounds-path-left : goal.bounds-path-left
bounds-path-left c = let h = (c.loop-left.invariant c.requires.1).low in omega arith

pub at-node-requires : goal.at-node-requires
at-node-requires c = lies_inside _ _ _ (c.loop-left.invariant c.requires.1) (omega arith) c.requires.0

pub unwrap-seen-requires : goal.unwrap-seen-requires
unwrap-seen-requires c =
    let e = c.at-node.ensures in
    found_good _ _ _ (c.loop-left.invariant c.requires.1) (omega arith) _ (rw (e.pool, e.number) at c.look.ensures)

pub child-number-requires : goal.child-number-requires
child-number-requires c =
    let e = c.at-node.ensures in
    let o = c.loop-left.invariant c.requires.1 in
    let seen = rw c.unwrap-seen.ensures at c.look.ensures in (
      sound_names c.at-node.result (rw (e.pool, e.number) (good_sound _ (good_here _ _ _ o (omega arith)))),
      few_before _ _ seen c.at-node.result.slot_is,
    )

pub loop-left-preserved : goal.loop-left-preserved
loop-left-preserved c =
    let e = c.at-node.ensures in
    let seen = rw c.unwrap-seen.ensures at c.look.ensures in
    λ r. go_down _ _ r (c.loop-left.invariant r) (omega arith) (rw (e.pool, e.number) at seen)
    (rw (e.pool, e.number) at c.child-number.ensures)

pub returns : goal.returns
returns c = leaf_last _ _ _ (c.loop-left.invariant c.requires.1) (omega arith)
