-- `pool::format` meets its contract: each return goes by the tests before it.
use borrow.Author.Rules.{rules}
use mathlib.Core.Path.{◌≡◌}
use mathlib.Core.Bool.{true, false}
use Rattle.std.proofs.Common.{arith}
use Rattle.std.proofs.lemmas.Grind.{common_steps}
use Rattle.std.proofs.lemmas.Result.{err_from_is_err_and}
use Rattle.words.specs.Tests.{within}
use Rattle.words.specs.Pool.{capacity_most}
use Rattle.change.specs.Answers.{format_says}
use Rattle.pool.proofs.Planning.{said, quietly, planned}
use Rattle.pool.proofs.Formats.{format_short, format_outside, format_small, format_planned}
use Rattle.pool.proofs.formatting.format.Goals as goal

pub returns-in_err-pass_list : goal.returns-in_err-pass_list
returns-in_err-pass_list c =
    let p = err_from_is_err_and c.from_residual.result c.from_residual.ensures.1 in
    rw (p.1, p.2) (said format_says (quietly _ _ _ (format_short _ _ _ c.in_err-pass_list.ensures)))

pub returns-then-not-contains : goal.returns-then-not-contains
returns-then-not-contains c =
    let w : within 1 c.args.capacity capacity_most ≡ false = grind (arith, common_steps) in
    said format_says (quietly _ _ _ (format_outside _ _ _ c.in_ok-pass_list.ensures w))

pub returns-then-pool-total_of : goal.returns-then-pool-total_of
returns-then-pool-total_of c =
    let w : within 1 c.args.capacity capacity_most ≡ true = grind (arith, common_steps) in
    said format_says (quietly _ _ _ (format_small _ _ _ c.in_ok-pass_list.ensures w (rw c.total_of.ensures at c.if-pool-total_of.true)))

pub returns : goal.returns
returns c =
    let w : within 1 c.args.capacity capacity_most ≡ true = grind (arith, common_steps) in
    let e = format_planned _ _ _ c.in_ok-pass_list.ensures w (rw c.total_of.ensures at c.if-pool-total_of.false) in
    let n = c.new-list.ensures in
    said format_says (planned _ (λ events. events) _ e c.format_events.ensures n.list n.events (search rules))
