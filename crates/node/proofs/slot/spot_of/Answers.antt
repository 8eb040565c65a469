-- Invariant: the spot is the lowest from i on that is not named.
use mathlib.Core.Path.{◌≡◌, ◌∙◌, sym}
use native.Mathlib.Omega.{arith}
use Rattle.node.specs.Slot.{entries}
use Rattle.node.proofs.Spots.{spot_from, lowest_here, lowest_on, lowest_end}
use Rattle.node.proofs.slot.spot_of.Goals as goal

pub loop-i-init : goal.loop-i-init
loop-i-init c = spot_from _

pub returns-then-not-marked : goal.returns-then-not-marked
returns-then-not-marked c =
    let free =
    sym (c.marks_of-seen.ensures c.loop-i.i (omega arith))
    ∙ sym c.marked.ensures ∙ c.if-not-marked.true in
    (sym (c.loop-i.invariant ∙ lowest_here entries c.loop-i.i _ (omega arith) free), omega arith)

pub loop-i-preserved : goal.loop-i-preserved
loop-i-preserved c =
    let held =
    sym (c.marks_of-seen.ensures c.loop-i.i (omega arith))
    ∙ sym c.marked.ensures ∙ c.if-not-marked.false in
    c.loop-i.invariant ∙ lowest_on entries c.loop-i.i _ (omega arith) held

pub returns : goal.returns
returns c =
    let past : c.loop-i.i ≡ entries = omega arith in
    (sym (c.loop-i.invariant ∙ rw past (lowest_end entries entries _ (omega arith))), omega arith)
