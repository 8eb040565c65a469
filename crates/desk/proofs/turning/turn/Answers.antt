-- `desk::turn` meets its contract: a turn is a planned turn, and then its events carried out.
use Rattle.desk.proofs.TwoSteps.{two_steps}
use Rattle.desk.proofs.turning.turn.Goals as goal

pub returns : goal.returns
returns g c =
    let a = c.args in
    let ds = g.L.Lent.reads in
    let planned = c.plan_turn-t.ensures in
    record {
      promise = (two_steps a.pool.now a.list.now (ds a.desks.now) a.last c.plan_turn-t.result c.carry_all.new.pool c.plan_turn-t.new.list
          (ds c.plan_turn-t.new.desks)).0 (planned.promise, c.carry_all.ensures);
      lent = planned.lent;
    }
