-- The calls one after the other: a flush for the first line, and another where the node has four records.
use Prim.Native.Nat.{◌≤◌}
use mathlib.Core.Path.{◌≡◌, refl}
use native.Mathlib.Omega.{arith}
use lib.ListN.{length, drop, length-drop}
use Rattle.split.specs.inner.Splitting.{eight_of}
use Rattle.split.proofs.Eights.{opened_eight}
use Rattle.split.proofs.Builds.{upper_length, node_written, one_line, two_lines}
use Rattle.split.proofs.building.new_node.Goals as goal

pub flush-requires : goal.flush-requires
flush-requires c =
    let a = c.args in
    let f = a.eight.now in
    let n = upper_length (eight_of f) (opened_eight f.new f.opened) a.new a.from in
    (omega (arith, c.write_head.ensures.next, c.write_upper.ensures.next, n), rw (c.line-line.ensures, c.node_at.ensures) (omega arith))

pub flush-requires-then-from-eq-LOWER : goal.flush-requires-then-from-eq-LOWER
flush-requires-then-from-eq-LOWER c =
    let a = c.args in
    let f = a.eight.now in
    let n = upper_length (eight_of f) (opened_eight f.new f.opened) a.new a.from in (
      omega (arith, c.write_head.ensures.next, c.write_upper.ensures.next, n, c.flush.ensures.next),
      rw (c.line-line.ensures, c.node_at.ensures) (omega arith),
    )

pub returns-then-from-eq-LOWER : goal.returns-then-from-eq-LOWER
returns-then-from-eq-LOWER c =
    let a = c.args in
    let f = a.eight.now in
    let long = opened_eight f.new f.opened in
    let line = rw c.node_at.ensures at c.line-line.ensures in
    let four : length (drop a.from (eight_of f)) ≡ 4 = omega (arith, length-drop a.from (eight_of f), long) in
    let made = node_written (eight_of f) long a.new a.link a.from refl c.write_head.ensures c.write_upper.ensures
    (rw line at c.flush.ensures) in
    two_lines a.new a.link (drop a.from (eight_of f)) made four (rw line at c.flush-then-from-eq-LOWER.ensures)

pub returns-else-from-eq-LOWER : goal.returns-else-from-eq-LOWER
returns-else-from-eq-LOWER c =
    let a = c.args in
    let f = a.eight.now in
    let long = opened_eight f.new f.opened in
    let line = rw c.node_at.ensures at c.line-line.ensures in
    let few : length (drop a.from (eight_of f)) ≤ 3 = omega (arith, length-drop a.from (eight_of f), long) in
    let made = node_written (eight_of f) long a.new a.link a.from refl c.write_head.ensures c.write_upper.ensures
    (rw line at c.flush.ensures) in
    one_line a.new a.link (drop a.from (eight_of f)) made few
