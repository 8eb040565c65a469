-- `pool::put` meets its contract: each return goes by the tests before it.
use Rattle.std.proofs.lemmas.Result.{err_from_is_err_and}
use Rattle.change.specs.Answers.{answer_says}
use Rattle.pool.proofs.Planning.{said, quiet_answer}
use Rattle.pool.proofs.Gates.{call_short, call_shut}
use Rattle.pool.proofs.putting.put.Goals as goal

pub returns-in_err-pass_list : goal.returns-in_err-pass_list
returns-in_err-pass_list c =
    let p = err_from_is_err_and c.from_residual.result c.from_residual.ensures.1 in
    rw (p.1, p.2) (said answer_says (quiet_answer _ _ _ (call_short _ _ _ _ c.in_err-pass_list.ensures)))

pub returns-in_err-seat : goal.returns-in_err-seat
returns-in_err-seat c =
    let p = err_from_is_err_and c.from_residual-in_err-seat.result c.from_residual-in_err-seat.ensures.1 in
    rw (p.1, p.2)
    (said answer_says (quiet_answer _ _ _ (call_shut _ _ _ _ c.in_ok-pass_list.ensures c.in_err-seat.ensures)))
