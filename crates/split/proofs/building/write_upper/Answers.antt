-- A loop over the places, two stores a turn.
use Prim.Native.Nat.{◌-◌}
use native.Mathlib.Omega.{arith}
use Rattle.split.specs.inner.Splitting.{eight_of}
use Rattle.split.proofs.Loops.{left_on, left_none}
use Rattle.split.proofs.Eights.{opened_eight}
use Rattle.split.proofs.Builds.{upper_turn, upper_end}
use Rattle.split.proofs.building.write_upper.Goals as goal

pub loop-i-preserved : goal.loop-i-preserved
loop-i-preserved c =
    let a = c.args in
    let f = a.eight.now in
    let i = c.loop-i.i in
    let w = c.write_entry.ensures in
    let turn = upper_turn (eight_of f) (opened_eight f.new f.opened) a.new a.from i (omega arith) (omega arith) c.record.ensures in
    (omega (arith, w.next), left_on (rw turn at c.loop-i.invariant.1) w)

pub returns : goal.returns
returns c =
    let a = c.args in
    let f = a.eight.now in
    let i = c.loop-i.i in
    left_none (rw (upper_end (eight_of f) (opened_eight f.new f.opened) a.new (i - a.from) i (omega arith)) at c.loop-i.invariant.1)
