-- Invariant: the whole pass comes to what the pass from here on comes to, and no more keys are counted than were read.
use mathlib.Core.Path.{◌∙◌, sym}
use mathlib.Core.Bool.{Bool}
use Prim.Native.Nat.{◌+◌, ◌≤◌, ◌<◌}
use native.Mathlib.Omega.{arith}
use borrow.Author.Tests.{lt-ltb, le-ltb}
use lib.Bits.{bit_and, and_mask}
use lib.Dec.{leb}
use mir.Val.{bool_byte}
use Rattle.node.specs.Slot.{entries}
use Rattle.node.proofs.Tests.{bit_le}
use Rattle.node.proofs.Walks.{walk_high, walk_fault, walk_on, walk_end}
use Rattle.node.proofs.Walks.{none_named, too_few, too_many, walked}
use Rattle.node.proofs.layout.Node.look.Goals as goal
use Rattle.node.proofs.layout.Node.look.Goals.{then-n-least-via-then-n-least, then-n-least-via-else-n-least+then-n-gt-ENTRIES}

pub returns-then-n-eq0 : goal.returns-then-n-eq0
returns-then-n-eq0 c =
    let a = c.args in
    rw c.then_some.ensures
    (none_named a.least a.from a.key a.self.pool.now a.self.number a.self.slot_is c.count-n.ensures c.if-n-eq0.true)

pub returns-then-n-least : goal.returns-then-n-least
returns-then-n-least c =
    let a = c.args in
    elim c.then-n-least.branch [
      | then-n-least-via-then-n-least w ↦
          too_few a.least a.from a.key a.self.pool.now a.self.number a.self.slot_is c.count-n.ensures w.if-n-least.true
      | then-n-least-via-else-n-least+then-n-gt-ENTRIES w ↦
          too_many a.least a.from a.key a.self.pool.now a.self.number a.self.slot_is c.count-n.ensures w.if-n-gt-ENTRIES.true
    ]

pub returns-then-e-ge-ENTRIES : goal.returns-then-e-ge-ENTRIES
returns-then-e-ge-ENTRIES c =
    let i = c.loop-j in
    let a = c.args in
    walked a.least a.from a.key a.self.pool.now a.self.number a.self.slot_is c.count-n.ensures (omega arith) (omega arith)
    (i.invariant.1
    ∙ walk_high _ _ _ i.j i.last i.after _ i.rest (omega arith) (and_mask i.rest 8)
    (le-ltb (bit_and i.rest 255) entries c.if-e-ge-ENTRIES.true))

pub returns-then-not-follows : goal.returns-then-not-follows
returns-then-not-follows c =
    let entry_low : bit_and c.loop-j.rest 255 < entries = let h = c.if-e-ge-ENTRIES.false in omega arith in
    let i = c.loop-j in
    let fault = sym c.follows.ensures ∙ c.if-not-follows.true in
    let a = c.args in
    walked a.least a.from a.key a.self.pool.now a.self.number a.self.slot_is c.count-n.ensures (omega arith) (omega arith)
    (i.invariant.1
    ∙ walk_fault _ _ _ i.j i.last i.after _ i.rest (omega arith) (and_mask i.rest 8)
    (lt-ltb (bit_and i.rest 255) entries entry_low) (rw (← c.key-x.ensures) fault))

pub loop-j-preserved : goal.loop-j-preserved
loop-j-preserved c =
    let entry_low : bit_and c.loop-j.rest 255 < entries = let h = c.if-e-ge-ENTRIES.false in omega arith in
    let is_upto : Bool = leb c.key-x.result c.args.key in
    let after_le : let i = c.loop-j in i.after + bool_byte is_upto ≤ i.j + 1 = omega (arith, bit_le is_upto) in
    let i = c.loop-j in
    let on = sym c.follows.ensures ∙ c.if-not-follows.false in (
      after_le,
      i.invariant.1 ∙ rw c.key-x.ensures
          (walk_on _ _ _ i.j i.last i.after _ i.rest (omega arith) (and_mask i.rest 8)
          (lt-ltb (bit_and i.rest 255) entries entry_low) (rw (← c.key-x.ensures) on)),
    )

pub returns : goal.returns
returns c =
    let i = c.loop-j in
    let a = c.args in
    walked a.least a.from a.key a.self.pool.now a.self.number a.self.slot_is c.count-n.ensures (omega arith) (omega arith)
    (i.invariant.1
    ∙ walk_end _ _ _ i.j i.last i.after _ i.rest (omega arith))
