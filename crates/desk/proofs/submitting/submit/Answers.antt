-- `desk::submit` meets its contract: there is no desk, or it is full, or the request is laid on it.
use mathlib.Core.Path.{sym, ◌∙◌}
use Rattle.std.proofs.lemmas.Result.{err_from_is_err_and}
use Rattle.desk.proofs.Submits.{nobody, keeps, lays}
use Rattle.desk.proofs.submitting.submit.Goals as goal

pub returns-in_err-i : goal.returns-in_err-i
returns-in_err-i g c =
    let w = g.met.L.Lent in
    let p = err_from_is_err_and c.from_residual.result c.from_residual.ensures.1 in
    let h = nobody w.reads_each g.L.Lent.made w.says_made c.args.desks.now c.args.member c.args.request c.in_err-i.field-0.0
    (sym c.seat.ensures ∙ c.in_err-i.was) in
    record { promise = rw (p.1, p.2) h.0; lent = h.1 }

pub returns-then-is_some : goal.returns-then-is_some
returns-then-is_some g c =
    let w = g.met.L.Lent in
    let h = keeps w.reads_each g.L.Lent.made w.says_made c.args.desks.now c.args.member c.args.request c.in_ok-i.i
    c.index-desks-i.result (sym c.seat.ensures ∙ c.in_ok-i.was) c.index-desks-i.is
    (rw (← c.desk.ensures) (sym c.is_some.ensures ∙ c.if-is_some.true)) in
    record { promise = h.0; lent = h.1 }

pub returns : goal.returns
returns g c =
    let w = g.met.L.Lent in
    let h = lays w.reads_each g.L.Lent.made w.says_made c.args.desks.now c.args.member c.args.request c.in_ok-i.i
    c.index-desks-i.result (sym c.seat.ensures ∙ c.in_ok-i.was) c.index-desks-i.is
    (rw (← c.desk.ensures) (sym c.is_some.ensures ∙ c.if-is_some.false)) in
    record { promise = rw c.from_desk.ensures h.0; lent = rw c.from_desk.ensures h.1 }
