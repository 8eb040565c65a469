-- Invariant: a number is among the bytes if it is marked already or among those that are left.
use mathlib.Core.Path.{◌≡◌, ◌∙◌, sym}
use mathlib.Core.Bool.{◌||◌}
use Prim.Native.Nat.{◌-◌, ◌+◌, ◌/◌}
use native.Mathlib.Omega.{arith}
use lib.Bits.{and_mask}
use Rattle.node.specs.Lists.{has}
use Rattle.node.specs.Slot.{byte, bytes}
use Rattle.node.specs.inner.Marks.{marked}
use Rattle.node.proofs.Masks.{gathers, passes, gathered}
use Rattle.node.proofs.marks.marks_of.Goals as goal
use Rattle.node.proofs.marks.marks_of.Goals.{then-e-lt64, else-e-lt64}

pub loop-preserved : goal.loop-preserved
loop-preserved c =
    let n = c.args.n in
    let l = c.loop in
    λ x h. l.invariant x h ∙ elim c.if-e-lt64.branch as (λ _. marked l.seen x || has x (bytes (n - l.counter) l.rest)
    ≡ marked c.if-e-lt64.seen x || has x (bytes (n - (l.counter + 1)) (l.rest / byte))) [
      | then-e-lt64 w ↦ gathers n l.counter l.rest x (omega arith) (marked l.seen x) (marked c.if-e-lt64.seen x)
          (rw (w.seen-is, ← and_mask l.rest 8) (w.with_mark-seen.ensures x))
      | else-e-lt64 w ↦ rw w.seen-is (passes n l.counter l.rest x (omega arith) (marked l.seen x) h
          (rw (← and_mask l.rest 8) w.if-e-lt64.false))
    ]

pub returns : goal.returns
returns c =
    λ x h. sym (c.loop.invariant x h ∙ gathered c.args.n c.loop.counter c.loop.rest x _ (omega arith))
