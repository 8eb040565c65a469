-- `walk::check_node` and `walk::check_children` meet their contracts: each need is a law of the walk.
use Prim.Native.Nat.{ℕ, ◌+◌}
use mathlib.Core.Path.{◌≡◌, sym, ◌∙◌}
use mathlib.Core.List.{◌∷◌}
use native.Mathlib.Omega.{arith}
use Rattle.std.specs.Prelude.{Some}
use Rattle.std.proofs.lemmas.Result.{err_from_is_err_and}
use Rattle.node.proofs.Views.{good_parts, good_sound}
use Rattle.node.specs.View.{view}
use Rattle.tree.specs.Kids as k
use Rattle.tree.proofs.Kids.{sound_named, name_low}
use Rattle.walk.specs.inner.Checking.{kid_of, kids_left}
use Rattle.walk.proofs.Walks as w
use Rattle.walk.proofs.Children as ch
use Rattle.walk.proofs.walking.+check_children_check_node.Goals as goal
use Rattle.walk.proofs.walking.+check_children_check_node.Goals.{check_children-After-until, check_node-After-fits}

pub check_children-check_node-requires : goal.check_children-check_node-requires
check_children-check_node-requires t c = (omega (arith, (sound_named c.args.node.now c.requires.1).few), c.requires.0)

pub check_children-returns-then-slot-count : goal.check_children-returns-then-slot-count
check_children-returns-then-slot-count t c =
    ch.only _ _ _ c.check_node.ensures (ch.last_kid c.args.node.now _ c.args.kid (c.if-slot-count.true ∙ c.count.ensures))

pub check_children-name-entry-requires : goal.check_children-name-entry-requires
check_children-name-entry-requires t c = (omega arith, (sound_named c.args.node.now c.requires.1).few)

pub check_children-key-key-requires : goal.check_children-key-key-requires
check_children-key-key-requires t c = name_low _ _ _ (sound_named c.args.node.now c.requires.1) _ (omega arith) c.name-entry.ensures

pub check_children-value-requires : goal.check_children-value-requires
check_children-value-requires t c = name_low _ _ _ (sound_named c.args.node.now c.requires.1) _ (omega arith) c.name-entry.ensures

pub check_children-check_node-requires-2 : goal.check_children-check_node-requires-2
check_children-check_node-requires-2 t c = (omega (arith, (sound_named c.args.node.now c.requires.1).few), c.requires.0)

-- the child in the slot, and those after it
turn : {t : ℕ} (c : check_children-After-until t) → kids_left c.args.node.now c.args.slot c.args.kid
    ≡ kid_of (record c.args.kid { cover = record c.args.kid.cover { hi = Some c.key-key.result } })
    ∷ kids_left c.args.node.now (c.args.slot + 1)
    (record c.args.kid { number = c.value.result; cover = record c.args.kid.cover { lo = c.key-key.result } })
turn c =
    ch.next_kid c.args.node.now _ c.args.kid c.requires.1 (omega arith) c.name-entry.ensures c.key-key.ensures c.value.ensures

pub check_children-returns-in_err-met : goal.check_children-returns-in_err-met
check_children-returns-in_err-met t c =
    let split = turn (goal.at.check_children-returns-in_err-met t c).After-until in
    let left = err_from_is_err_and c.from_residual.result c.from_residual.ensures.1 in
    rw (left.1, left.2) (ch.stops _ _ _ split (rw c.until.ensures at c.in_err-met.ensures))

pub check_children-check_children-requires : goal.check_children-check_children-requires
check_children-check_children-requires t c = (
  omega (arith, (sound_named c.args.node.now c.requires.1).few),
  (w.goes_on c.in_ok-met.ensures, c.requires.1, omega arith),
)

pub check_children-returns : goal.check_children-returns
check_children-returns t c =
    let split = turn (goal.at.check_children-returns t c).After-until in
    ch.goes _ _ _ split (rw c.until.ensures at c.in_ok-met.ensures) (rw c.next-next.ensures at c.check_children.ensures)

pub check_node-returns-then-not-mark : goal.check_node-returns-then-not-mark
check_node-returns-then-not-mark t c = w.stale c.args.kid c.args.seen c.mark.ensures _ _ _ c.if-not-mark.true

pub check_node-returns-then-levels-eq0 : goal.check_node-returns-then-levels-eq0
check_node-returns-then-levels-eq0 t c =
    let a = c.args in
    let e = c.at-node.ensures in
    w.leaf_done a.kid a.seen c.mark.ensures _ _ _ c.if-not-mark.false c.requires c.if-levels-eq0.true
    (rw (e.pool, e.number) at c.check_leaf.ensures)

-- whether the node is good
fits : {t : ℕ} (c : check_node-After-fits t)
    → c.fits.result ≡ k.fits c.args.kid.least (kid_of c.args.kid) (view c.args.pool.now c.args.kid.number)
fits c = rw (c.at-node.ensures.pool, c.at-node.ensures.number) at c.fits.ensures

pub check_node-returns-then-not-fits : goal.check_node-returns-then-not-fits
check_node-returns-then-not-fits t c =
    let a = c.args in
    let good = fits (goal.at.check_node-returns-then-not-fits t c).After-fits in
    w.bad a.kid a.seen c.mark.ensures _ _ _ c.if-not-mark.false c.if-levels-eq0.false good c.if-not-fits.true

pub check_node-check_children-requires : goal.check_node-check_children-requires
check_node-check_children-requires t c =
    let ready = w.counted c.args.kid c.args.seen c.mark.ensures c.if-not-mark.false c.requires in
    let good = good_sound _ (good_parts (sym c.fits.ensures ∙ c.if-not-fits.false)) in
    (omega arith, (rw c.at-node.ensures.pool ready, good, omega arith))

pub check_node-returns : goal.check_node-returns
check_node-returns t c =
    let a = c.args in
    let e = c.at-node.ensures in
    let good = fits (goal.at.check_node-returns t c).After-fits in
    w.down a.kid a.seen c.mark.ensures _ _ _ c.if-not-mark.false c.if-levels-eq0.false
    good c.if-not-fits.false (rw (e.pool, e.number) at c.link.ensures) (rw (e.pool, e.number) at c.check_children.ensures)
