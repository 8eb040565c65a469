-- A split level by level: what one level has done, and the levels above it.
use Prim.Native.Nat.{ℕ, ◌+◌, ◌-◌, ◌*◌, ◌/◌, ◌≤◌}
use mathlib.Core.Path.{◌≡◌, refl}
use mathlib.Core.List.{List, [], ◌∷◌, append-nil}
use mathlib.Core.Bool.{true, false}
use native.Mathlib.Omega.{arith}
use lib.ListN.{length, drop, length-drop}
use lib.Dec.{ltb}
use Rattle.std.specs.Prelude.{Option, if◌then◌else◌}
use Rattle.words.specs.Pool.{used_at, root_at, height_at}
use Rattle.words.specs.Event.{at}
use Rattle.words.specs.Blocks.{Pair, stored}
use Rattle.words.specs.declared.write.EventList.{EventList}
use Rattle.words.specs.Written.{written, Wrote}
use Rattle.words.proofs.Written.{wrote_append}
use Rattle.node.specs.Lists.{insert}
use Rattle.node.specs.Slot.{bytes, names, slot, spot}
use Rattle.node.specs.View.{Record, view, rank, slot_at}
use Rattle.node.proofs.Views.{view_names}
use Rattle.tree.specs.Header.{used_of, root_of, height_of}
use Rattle.tree.specs.Halves.{eight, lower, supply, used_with}
use Rattle.change.specs.Steps.{full, entry_pairs, new_node, staying_pairs}
use Rattle.change.specs.Plan.{new_nodes}
use Rattle.change.specs.Put.{rise, split}
use Rattle.change.proofs.Lines.{node_events}
use Rattle.change.proofs.Counts.{length_eight}
use Rattle.split.specs.inner.Opened.{Opened}
use Rattle.split.specs.inner.Pairs.{Noted}
use Rattle.split.specs.inner.Splitting.{word_1, staying, LeafLevel, InnerLevel, parent_pairs, new_root, Done}
use Rattle.split.proofs.Notes.{noted_append}
use Rattle.split.proofs.Eights.{slot_lower}

-- the pairs of a split level, one call after the other
pub stays : {m : List ℕ} {k r ns e w : ℕ} (x : Record) (next : Option ℕ) {g g₁ g₂ g₃ : List Pair} → Opened m k r ns e x.0
    → Noted (if ltb r lower then entry_pairs k e x else []) g g₁ → Noted (word_1 k next) g₁ g₂ → w ≡ slot (bytes lower ns)
    → Noted ((slot_at k, w) ∷ []) g₂ g₃ → Noted (staying m k x next) g g₃
unfolding staying_pairs
stays x next o a b s d =
    rw (← slot_lower x o, ← s, ← o.rank_is, ← o.spot_is) (noted_append a (noted_append b d))

-- the events of a new node
pub upper_events : (m : List ℕ) (k new link from : ℕ) (r : Record) → full (view m k) ≡ true
    → length (stored (new_node new link (drop from (eight (view m k) r)))) ≤ 3 + 2 * (8 - from) + (1 + 2 * (8 - from)) / 8
upper_events m k new link from r t =
    rw (node_events new link (drop from (eight (view m k) r)), length-drop from (eight (view m k) r), length_eight m k r t) (omega arith)

-- what goes up into a full node, a node with room, or above the root
module _ (m : List ℕ) (i : ℕ) (up : Record) {l : EventList} {g : List Pair} where
  pub rise_full : (k : ℕ) (above : List ℕ) {r : Record} {l₁ l₂ : EventList} {g₁ g₂ : List Pair} → full (view m k) ≡ true
      → InnerLevel m k up (supply (used_of m) i) l g l₁ g₁ r → Done (rise m above r (i + 1)) l₁ g₁ l₂ g₂
      → Done (rise m (k ∷ above) up i) l g l₂ g₂
  unfolding rise new_nodes
  rise_full k above e v d =
      let d' = rw v.goes_up at d in
      rw e (record { wrote = wrote_append v.wrote d'.wrote; noted = noted_append v.noted d'.noted })

  pub rise_room : (k : ℕ) (above : List ℕ) {g₁ : List Pair} → full (view m k) ≡ false
      → {used : ℕ} → used ≡ used_with (used_of m) i
      → Noted (parent_pairs m k used up) g g₁ → Done (rise m (k ∷ above) up i) l g l g₁
  unfolding rise new_nodes written
  rise_room k above e q a =
      rw e (record { wrote = record { same = refl; next = omega arith; list = refl }; noted = rw (← q) a })

  pub rise_top : {l₁ : EventList} {g₁ : List Pair} → Done (new_root m (supply (used_of m) i) up) l g l₁ g₁
      → Done (rise m [] up i) l g l₁ g₁
  unfolding rise
  rise_top d =
      let e : used_with (used_of m) (i + 1) ≡ supply (used_of m) i = omega arith in
      record { wrote = d.wrote; noted = rw e d.noted }

-- the pairs of the node with room, from what its calls have noted
pub takes : (m : List ℕ) (k used : ℕ) (up : Record) {w r e : ℕ} {g g₁ g₂ g₃ : List Pair} → w ≡ at m (slot_at k)
    → r ≡ rank (view m k) up.0 → e ≡ spot (names w) → Noted (entry_pairs k e up) g g₁
    → Noted ((slot_at k, slot (insert r e (names w))) ∷ []) g₁ g₂ → Noted ((used_at, used) ∷ []) g₂ g₃
    → Noted (parent_pairs m k used up) g g₃
takes m k used up is er es a b d = rw (view_names m k, ← is, ← es, ← er) (noted_append a (noted_append b d))

-- and of a new root
pub crowned : (m : List ℕ) (new : ℕ) {up : Record} {l l₁ : EventList} {g g₁ g₂ g₃ : List Pair}
    → Wrote (stored (new_node new (root_of m) (up ∷ []))) l l₁ → Noted ((used_at, new) ∷ []) g g₁ → Noted ((root_at, new) ∷ []) g₁ g₂
    → Noted ((height_at, height_of m + 1) ∷ []) g₂ g₃ → Done (new_root m new up) l g l₁ g₃
unfolding new_nodes
crowned m new a b d e = record { wrote = rw append-nil a; noted = noted_append b (noted_append d e) }

pub split_done : (m : List ℕ) (k : ℕ) (above : List ℕ) (x : Record) {r : Record} {l l₁ l₂ : EventList} {g g₁ g₂ : List Pair}
    → LeafLevel m k x (supply (used_of m) 0) l g l₁ g₁ r → Done (rise m above r 1) l₁ g₁ l₂ g₂ → Done (split m k above x) l g l₂ g₂
unfolding split new_nodes
split_done m k above x v d =
    let d' = rw v.goes_up at d in
    record { wrote = wrote_append v.wrote d'.wrote; noted = noted_append v.noted d'.noted }
