-- The fields as `next` gives them.
use Rattle.std.proofs.Common.{rules, ◌∙◌}
use borrow.Author.Tests.{tests}
use Rattle.line.proofs.Parts.{line_asks}
use Rattle.line.proofs.parsing.asked.Goals as goal

pub returns-in-Some-Some-default-None : goal.returns-in-Some-Some-default-None
returns-in-Some-Some-default-None c =
    let made = c.split-fields.ensures in
    let asks = line_asks made.runs c.args.line.now made.rest made.done made.closure _ _ _ _ _ _ _ _ c.next.ensures.steps
    c.next-2.ensures.steps c.next-value.ensures.steps c.next-3.ensures.steps (λ x b q k. search (rules, tests)) in
    let arm = c.in-Some-Some-default-None in
    c.request.ensures ∙ rw (arm.is-0, arm.is-1, arm.is-3) at asks

pub returns-in_default : goal.returns-in_default
returns-in_default c =
    let made = c.split-fields.ensures in
    let asks = line_asks made.runs c.args.line.now made.rest made.done made.closure _ _ _ _ _ _ _ _ c.next.ensures.steps
    c.next-2.ensures.steps c.next-value.ensures.steps c.next-3.ensures.steps (λ x b q k. search (rules, tests)) in
    rw (c.in_default.is-0, c.in_default.is-1, c.in_default.is-3) at asks

pub returns-in_default-2 : goal.returns-in_default-2
returns-in_default-2 c =
    let made = c.split-fields.ensures in
    let asks = line_asks made.runs c.args.line.now made.rest made.done made.closure _ _ _ _ _ _ _ _ c.next.ensures.steps
    c.next-2.ensures.steps c.next-value.ensures.steps c.next-3.ensures.steps (λ x b q k. search (rules, tests)) in
    rw (c.in_default.is-0, c.in_default.is-1) at asks
