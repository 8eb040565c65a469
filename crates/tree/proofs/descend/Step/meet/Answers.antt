-- `tree::Step::meet` meets its contract: a last key above the top is outside of the cover.
use mathlib.Core.Path.{refl, sym, ◌∙◌}
use mathlib.Core.Logic.{inr}
use native.Mathlib.Omega.{arith}
use borrow.Author.Tests.{lt-leb}
use Rattle.node.proofs.Ends.{kept}
use Rattle.tree.proofs.Form.{form}
use Rattle.tree.proofs.Ways.{inside}
use Rattle.tree.proofs.descend.Step.meet.Goals as goal

pub bounds-pool : goal.bounds-pool
bounds-pool c = let h = (form _ c.requires.0).least in omega arith

pub at-node-requires : goal.at-node-requires
at-node-requires c = inside _ c.requires.0 c.requires.1 _ (sym c.in_use.ensures ∙ c.if-not-in_use.false)

pub returns-then-self-seen : goal.returns-then-self-seen
returns-then-self-seen c =
    let e = c.at-node.ensures in
    let seen = rw (e.pool, e.number) at (rw c.in_ok-seen.ensures.ok_part at c.look.ensures) in
    let outside = kept seen c.args.self.top c.requires.2 ∙ lt-leb _ _ c.if-self-seen.true in
    inr (sym c.in_use.ensures ∙ c.if-not-in_use.false, outside, refl)
