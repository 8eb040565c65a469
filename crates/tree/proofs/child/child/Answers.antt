-- `tree::child` meets its contract.
use mathlib.Core.Path.{◌∙◌}
use native.Mathlib.Omega.{arith}
use Rattle.tree.proofs.Kids.{names_named, name_low, first_child, later_child}
use Rattle.tree.proofs.child.child.Goals as goal

pub returns-then-j-eq0 : goal.returns-then-j-eq0
returns-then-j-eq0 c =
    λ lo hi. c.link.ensures ∙ first_child _ _ _ (names_named c.args.node c.requires.0) lo hi _ c.if-j-eq0.true

pub name-requires : goal.name-requires
name-requires c = (omega arith, c.requires.0.few)

pub value-requires : goal.value-requires
value-requires c = name_low _ _ _ (names_named c.args.node c.requires.0) _ (omega arith) c.name.ensures

pub returns : goal.returns
returns c =
    let n = names_named c.args.node c.requires.0 in
    λ lo hi. later_child _ _ _ n lo hi _ c.if-j-eq0.false c.requires.1 c.name.ensures c.value.ensures
