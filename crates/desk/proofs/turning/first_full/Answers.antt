-- `desk::turning::first_full` meets its contract.
use mathlib.Core.Path.{sym, ◌∙◌, ap}
use native.Mathlib.Omega.{arith}
use Rattle.desk.specs.inner.Parts.{found}
use Rattle.desk.proofs.LentDesks.{held_reads}
use Rattle.desk.proofs.Looking.{met, passed, none_left}
use Rattle.desk.proofs.turning.first_full.Goals as goal

pub returns-in-Some-clause-found : goal.returns-in-Some-clause-found
returns-in-Some-clause-found g c =
    let ds = g.L.Lent.reads c.args.desks.now in
    let is = held_reads g.met.L.Lent.reads_each c.args.desks.now c.loop-i.i c.index-desks-i.result (omega arith) c.index-desks-i.is in
    rw (met ds c.loop-i.i c.args.to c.in-Some.request c.loop-i-test.true (is ∙ sym c.desk.ensures ∙ c.in-Some.is), c.loop-i.invariant)

pub loop-i-preserved : goal.loop-i-preserved
loop-i-preserved g c =
    let ds = g.L.Lent.reads c.args.desks.now in
    let is = held_reads g.met.L.Lent.reads_each c.args.desks.now c.loop-i.i c.index-desks-i.result (omega arith) c.index-desks-i.is in
    passed ds c.loop-i.i c.args.to c.loop-i-test.true (is ∙ sym c.desk.ensures ∙ c.in_default.is) ∙ c.loop-i.invariant

pub returns-clause-found : goal.returns-clause-found
returns-clause-found g c =
    let ds = g.L.Lent.reads c.args.desks.now in
    none_left ds c.loop-i.i c.args.to c.loop-i-test.false ∙ ap (found ds) c.loop-i.invariant
