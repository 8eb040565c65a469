-- `desk::plan_chosen` meets its contract.
use Prim.Native.Nat.{◌<◌}
use native.Mathlib.Omega.{arith}
use borrow.Author.Tests.{le-ltb}
use Rattle.change.proofs.Answers.{answer_told}
use Rattle.desk.specs.Turn.{serve_turn}
use Rattle.desk.proofs.Bounds.{looked_some}
use Rattle.desk.proofs.steps.plan_chosen.Goals as goal

pub returns-in-Some : goal.returns-in-Some
unfolding serve_turn
returns-in-Some c =
    let some : 0 < c.looked_at.result = omega arith in
    let may = looked_some c.args.desks c.args.last 0 (rw c.looked_at.ensures at some) in
    rw (may, le-ltb _ _ c.if-list-lt-LIST_WORDS.false, c.in-Some.is, ← answer_told _ _ c.serve.ensures.0)
    (c.served.ensures, c.serve.ensures.1)
