-- `tree::first_key` meets its contract.
use native.Mathlib.Omega.{arith}
use Rattle.tree.proofs.Kids.{names_named, name_low, first_low, later_low}
use Rattle.tree.proofs.child.first_key.Goals as goal

pub returns-then-j-eq0 : goal.returns-then-j-eq0
returns-then-j-eq0 c = λ hi. first_low _ _ _ (names_named c.args.node c.requires.0) _ hi _ c.if-j-eq0.true

pub name-requires : goal.name-requires
name-requires c = (omega arith, c.requires.0.few)

pub key-requires : goal.key-requires
key-requires c = name_low _ _ _ (names_named c.args.node c.requires.0) _ (omega arith) c.name.ensures

pub returns : goal.returns
returns c =
    let n = names_named c.args.node c.requires.0 in
    λ hi. later_low _ _ _ n _ hi _ c.if-j-eq0.false c.requires.1 c.name.ensures c.key.ensures
