-- A loop over the lines.
use Prim.Native.Nat.{◌+◌}
use native.Mathlib.Omega.{arith}
use Rattle.split.proofs.Loops.{left_on, left_none}
use Rattle.split.proofs.Logs.{flush_turn, flush_end}
use Rattle.split.proofs.logging.flush_log.Goals as goal

pub loop-line-preserved : goal.loop-line-preserved
loop-line-preserved c =
    let l = c.loop-line in
    let end = c.line-first.result + c.args.count in
    let w = c.flush.ensures in
    (omega (arith, w.next), left_on (rw (flush_turn end l.line (omega arith)) at l.invariant.1) w)

pub returns : goal.returns
returns c =
    let l = c.loop-line in
    let end = c.line-first.result + c.args.count in
    left_none (rw (flush_end l.line end l.line (omega arith)) at l.invariant.1)
