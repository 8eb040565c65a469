-- The new record at its rank, and the others by their names.
use Prim.Native.Nat.{ℕ}
use mathlib.Core.Path.{◌∙◌, ap₂}
use Rattle.split.proofs.Eights.{at_rank, at_name, name_low}
use Rattle.split.proofs.opening.Eight.record.Goals as goal

pub returns-then-i-self : goal.returns-then-i-self
returns-then-i-self c = at_rank c.args.self.now.new c.args.self.now.opened c.args.i c.if-i-self.true

pub key-requires : goal.key-requires
key-requires c = rw c.byte_at-e.ensures (name_low c.args.self.now.new c.args.self.now.opened c.args.i c.requires)

pub value-requires : goal.value-requires
value-requires c = rw c.byte_at-e.ensures (name_low c.args.self.now.new c.args.self.now.opened c.args.i c.requires)

pub returns : goal.returns
returns c =
    let e = c.byte_at-e.ensures in
    let key = rw e at c.key.ensures in
    let value = rw e at c.value.ensures in
    ap₂ (λ (x y : ℕ). (x, y)) key value ∙ at_name c.args.self.now.new c.args.self.now.opened c.args.i c.requires c.if-i-self.false
