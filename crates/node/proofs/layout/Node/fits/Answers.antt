-- `node::Node::fits` meets its contract.
use borrow.Author.Rules.{rules}
use mathlib.Core.Path.{◌≡◌, ◌∙◌, ap, sym}
use mathlib.Core.Bool.{Bool, false}
use Prim.Native.Nat.{ℕ}
use lib.ListN.{length}
use Rattle.std.specs.Prelude.{Option, Some, None, MatchOption}
use Rattle.node.specs.Slot.{count}
use Rattle.node.specs.View.{View, good}
use Rattle.node.specs.declared.cover.Look.{Look}
use Rattle.node.specs.inner.Looked.{Looked, ends}
use Rattle.node.proofs.Views.{view_length}
use Rattle.node.proofs.layout.Node.fits.Goals as goal

fitted : (least lo hi : ℕ) (u : View) {n : ℕ} → length u.records ≡ n → (o : Option Look) → Looked least lo 0 u o → {r : Bool}
    → MatchOption o (r ≡ false) (λ x. r ≡ ends hi n x.last) → r ≡ good least lo hi u
fitted least lo hi u many None l m = m ∙ sym (l hi)
fitted least lo hi u many (Some x) l m = m ∙ rw (← many) (sym (l.good_is hi))

pub returns : goal.returns
returns c =
    let many = view_length c.args.self.pool.now c.args.self.number ∙ ap count (sym c.args.self.slot_is) in
    fitted _ _ _ _ many _ c.look.ensures (search rules)
