-- `tree::last_key` meets its contract.
use mathlib.Core.Path.{◌≡◌}
use Prim.Native.Nat.{ℕ, suc}
use native.Mathlib.Omega.{arith}
use Rattle.tree.specs.Kids.{kid}
use Rattle.tree.specs.inner.Descended.{kid_after}
use Rattle.tree.proofs.Kids.{names_named, name_low, last_high, high_at}
use Rattle.tree.proofs.child.last_key.Goals as goal
use Rattle.tree.proofs.child.last_key.Goals.{After-key}

pub returns-then-count-j : goal.returns-then-count-j
returns-then-count-j c =
    λ lo. last_high _ _ _ (names_named c.args.node c.requires.0) lo _ _ (omega arith) c.requires.1

pub name-requires : goal.name-requires
name-requires c = (omega arith, c.requires.0.few)

pub key-requires : goal.key-requires
key-requires c = name_low _ _ _ (names_named c.args.node c.requires.0) _ (omega arith) c.name.ensures

read : (c : After-key) (lo : ℕ)
    → c.key.result ≡ (kid_after c.args.node.pool.now (kid c.args.node.number lo (suc c.args.top)) c.args.j).upto
read c lo = high_at _ _ _ (names_named c.args.node c.requires.0) lo _ _ (omega arith) c.name.ensures c.key.ensures

pub overflow_sub-result : goal.overflow_sub-result
overflow_sub-result c = omega (arith, c.requires.2, read (goal.at.overflow_sub-result c).After-key 0)

pub returns : goal.returns
returns c =
    let k = (goal.at.returns c).After-key in
    λ lo. omega (arith, c.requires.2, read k 0, read k lo)
