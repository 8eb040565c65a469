-- Delete at the leaf, return by return.
use Prim.Native.Nat.{ℕ}
use mathlib.Core.Path.{◌≡◌}
use mathlib.Core.List.{List}
use Rattle.std.specs.Prelude.{Ok, Err}
use Rattle.words.specs.Blocks.{once}
use Rattle.node.specs.Lists.{remove}
use Rattle.node.specs.Slot.{names, slot}
use Rattle.node.specs.View.{slot_at}
use Rattle.tree.specs.declared.descend.Seat.{Seat}
use Rattle.tree.proofs.Leaves.{AtLeaf, placed}
use Rattle.change.specs.declared.Outcome.TheVariants.{Removed, Absent}
use Rattle.change.specs.Gate.{quiet}
use Rattle.change.specs.Delete.{delete_at}

module _ {m : List ℕ} {key : ℕ} {s : Seat} (a : AtLeaf m key s) (above : List ℕ) where
  pub delete_absent : {r : ℕ} → s.place ≡ Err r → delete_at m key s.leaf above ≡ quiet Absent
  unfolding delete_at
  delete_absent e = rw (placed a e).1

  pub delete_removed : {r : ℕ} → s.place ≡ Ok r → {k w : ℕ} → k ≡ slot_at s.leaf → w ≡ slot (remove r (names s.slot))
      → delete_at m key s.leaf above ≡ record { answer = Ok Removed; events = once k w }
  unfolding delete_at
  delete_removed e k w = rw ((placed a e).1, k, w, (placed a e).0, a.names_are)
