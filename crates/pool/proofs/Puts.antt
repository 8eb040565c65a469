-- Put at the leaf: the events of a present key and of a leaf that is not full, and the returns.
use Prim.Native.Nat.{ℕ, ◌≤◌, ◌<◌}
use mathlib.Core.Path.{◌≡◌, sym, ◌∙◌, ap}
use mathlib.Core.List.{List, [], ◌∷◌}
use mathlib.Core.Bool.{true}
use native.Mathlib.Omega.{arith}
use lib.ListN.{get_or, length}
use borrow.Author.Tests.{ne_eqb}
use Rattle.std.specs.Prelude.{Ok, Err}
use Rattle.words.specs.Pool.{line}
use Rattle.words.specs.declared.event.Event.TheVariants.{Store as store, Flush as flush, Fence as fence}
use Rattle.words.specs.Blocks.{once}
use Rattle.words.specs.declared.write.EventList.{EventList}
use Rattle.words.specs.Written.{Wrote}
use Rattle.words.proofs.Written.{wrote_append}
use Rattle.node.specs.Lists.{insert, all_below}
use Rattle.node.specs.Slot.{count, names, slot, entries, spot}
use Rattle.node.specs.View.{View, view, rank, slot_at, key_at, value_at}
use Rattle.node.proofs.Every.{below_at}
use Rattle.node.proofs.Slots.{length_names}
use Rattle.tree.specs.declared.descend.Seat.{Seat}
use Rattle.tree.proofs.Leaves.{AtLeaf, placed}
use Rattle.change.specs.declared.Outcome.TheVariants.{New, Replaced}
use Rattle.change.specs.Put.{replace_events, fill_events, put_at}
use Rattle.change.proofs.Lines.{entry_stored}
use Rattle.pool.specs.inner.Puts.{Says, put_there}

-- the entry of a place that a slot word names
pub entry_low : (w place : ℕ) {e : ℕ} → (place < count w) × (count w ≤ entries) × (all_below entries (names w) ≡ true)
    → e ≡ get_or (names w) place 0 → e < entries
entry_low w place b e = rw e (below_at entries place (names w) b.2 (rw length_names b.0))

module _ {u : View} {key r w : ℕ} (h : Says u key w r) (leaf value : ℕ) where
  pub filled : {e : ℕ} → e ≡ spot (names w) → {x v f a b : ℕ} {l l₁ l₂ l₃ l₄ l₅ : EventList}
      → x ≡ key_at leaf e → v ≡ value_at leaf e → f ≡ line v → a ≡ slot_at leaf → b ≡ slot (insert r e (names w))
      → Wrote (store x key ∷ []) l l₁ → Wrote (store v value ∷ []) l₁ l₂ → Wrote (flush f ∷ []) l₂ l₃
      → Wrote (fence ∷ []) l₃ l₄ → Wrote (once a b) l₄ l₅ → Wrote (fill_events leaf u (key, value)) l l₅
  filled {e} spot_is x v f a b c₁ c₂ c₃ c₄ c₅ =
      rw (h.names_are, h.rank_is, ← spot_is, entry_stored leaf e (key, value), ← b, ← x, ← v, ← f, ← a)
      (wrote_append c₁ (wrote_append c₂ (wrote_append c₃ (wrote_append c₄ c₅))))

-- the returns of a leaf that has the key, or room for it
module _ {m : List ℕ} {key : ℕ} {s : Seat} (a : AtLeaf m key s) where
  abbrev u : View
  u = view m s.leaf

  pub leaf_says : {r : ℕ} → r ≡ rank u key → Says u key s.slot r
  leaf_says e = record { names_are = a.names_are; rank_is = sym e }

  named_count : length u.named ≡ count s.slot
  named_count = ap length a.names_are ∙ length_names s.slot

  module _ (value : ℕ) where
    pub put_present : {r : ℕ} → s.place ≡ Ok r
        → put_there m key value ≡ record { answer = Ok Replaced; events = replace_events s.leaf u (key, value) }
    unfolding put_at
    put_present e = rw (a.seated.way_is, (placed a e).1)

    pub put_room : {r : ℕ} → s.place ≡ Err r → count s.slot < entries
        → put_there m key value ≡ record { answer = Ok New; events = fill_events s.leaf u (key, value) }
    unfolding put_at
    put_room e h =
        rw (a.seated.way_is, (placed a e).1, ne_eqb (length u.named) entries (λ e. omega (arith, named_count)))
