-- `pool::serve` meets its contract: each request is its own call's.
use Rattle.std.specs.Prelude.{Ok, Err}
use Rattle.std.proofs.lemmas.Result.{err_from_is_err_and}
use Rattle.change.specs.Answers.{answer_says}
use Rattle.pool.proofs.Planning.{said, quiet_answer}
use Rattle.pool.proofs.Fetches.{fetch_plan}
use Rattle.pool.proofs.serving.serve.Goals as goal

pub returns-in_err-outcome-in-Fetch : goal.returns-in_err-outcome-in-Fetch
returns-in_err-outcome-in-Fetch c =
    let p = err_from_is_err_and c.from_residual.result c.from_residual.ensures.1 in
    let why = c.in_err-outcome-in-Fetch.field-0.0 in
    rw (p.1, p.2, c.in-Fetch.is)
    (said answer_says (quiet_answer _ _ _ (fetch_plan _ _ (Err why) c.in_err-outcome-in-Fetch.ensures)))

pub returns-in_ok-outcome-in-Fetch : goal.returns-in_ok-outcome-in-Fetch
returns-in_ok-outcome-in-Fetch c =
    let arm = c.in_ok-outcome-in-Fetch in
    rw c.in-Fetch.is (said answer_says (quiet_answer _ _ _ (fetch_plan _ _ (Ok arm.outcome) arm.ensures)))
