-- A value replaced, a record put into a leaf with room, and a record deleted survive every cut; so does a call that plans nothing.
use Prim.Native.Nat.{ℕ, ◌<◌}
use mathlib.Core.Path.{◌≡◌, refl, sym, subst}
use mathlib.Core.Logic.{inl, inr}
use mathlib.Core.List.{List, [], ◌∷◌, ◌++◌, append_assoc}
use mathlib.Core.Bool.{true, false}
use native.Mathlib.Omega.{arith}
use lib.ListN.{length, get_or}
use Rattle.words.specs.declared.event.Event.{Event}
use Rattle.words.specs.declared.event.Event.TheVariants.{Fence as fence}
use Rattle.words.specs.Event.{run}
use Rattle.words.specs.Blocks.{Pair, once, stored}
use Rattle.words.specs.Cuts.{Found}
use Rattle.words.proofs.Loss.{settled_safe}
use Rattle.words.proofs.Blocks.{Addressed, stores_stored, flushed_stored}
use Rattle.words.proofs.Found.{cut_quiet, found_quiet}
use Rattle.words.proofs.Commit.{Prepares, prepares_none, prepares_fence}
use Rattle.node.specs.Lists.{has}
use Rattle.node.specs.Slot.{entries}
use Rattle.node.specs.View.{View, view, keys, rank, slot_at, value_at}
use Rattle.node.proofs.Spots.{spot_below, spot_unused}
use Rattle.tree.specs.Header.{total_in}
use Rattle.tree.specs.WellFormed.{WellFormed}
use Rattle.tree.specs.inner.Reads.{Reads}
use Rattle.tree.proofs.Way.{Reached}
use Rattle.change.specs.Steps.{entry_pairs, taken_slot, fill_spot, removed_slot}
use Rattle.change.specs.Put.{replace_events, fill_events}
use Rattle.change.specs.Recover.{recovery}
use Rattle.change.proofs.Nodes.{InNode}
use Rattle.change.proofs.Goes.{AllGo, go_weaken}
use Rattle.change.proofs.Leaf.{used_inside, leaf_range, deleted_goes, deleted, replaced_goes, replaced, filled_goes, filled}
use Rattle.change.proofs.Unread.{entry_unread}
use Rattle.change.proofs.Survives.{Under, Survives, recovery_none, accepts_clean, commit_survives}

-- no events: what is found is what stood there
module _ {m : List ℕ} (w : WellFormed m) where
  pub none_found : {n : ℕ} {m' : List ℕ} → Found recovery m [] n m' → m' ≡ m
  none_found {n} = found_quiet (λ m'. m' ≡ m) (λ m' c. cut_quiet n refl c) (λ m' e. rw e (recovery_none w))

  pub none_survives : Survives m []
  none_survives = record {
    accepts = λ f. rw (none_found f) (accepts_clean w);
    leaves = λ f. inr (rw (none_found f, recovery_none w));
    last = λ b f. rw (none_found f, recovery_none w);
    safe = λ x. settled_safe m [] x tt;
    under = tt;
  }

module _ {m : List ℕ} {key : ℕ} (w : WellFormed m) (y : Reached m key) where
  abbrev k : ℕ
  k = y.place.number

  leaf_under : (es : List Event) → AllGo (InNode k) es → Under (total_in m) es
  leaf_under es = go_weaken (InNode k) es (λ x n. omega (arith, n.1, (used_inside w k (leaf_range w y).1).0))

  module _ (present : has key (keys (view m k).records) ≡ true) where
    pub delete_survives : Survives m (once (slot_at k) (removed_slot (view m k) key))
    delete_survives =
        commit_survives w prepares_none (slot_at k) (removed_slot (view m k) key)
        (leaf_under (once (slot_at k) (removed_slot (view m k) key)) (deleted_goes w y)) (deleted w y present).well_formed

    pub replace_survives : (v : ℕ) → Survives m (replace_events k (view m k) (key, v))
    replace_survives v =
        commit_survives w prepares_none (value_at k (get_or (view m k).named (rank (view m k) key) 0)) v
        (leaf_under (replace_events k (view m k) (key, v)) (replaced_goes w y present v)) (replaced w y present v).well_formed

  pub fill_survives : (v : ℕ) → has key (keys (view m k).records) ≡ false → length (view m k).named < entries
      → Survives m (fill_events k (view m k) (key, v))
  fill_survives v absent room =
      subst (Survives m) parts
      (commit_survives w prepares (slot_at k) (taken_slot u key i)
      (subst (Under (total_in m)) (sym parts) (leaf_under (fill_events k u (key, v)) (filled_goes w y v room)))
      (subst (λ (es : List Event). WellFormed (run m es)) (sym parts) (filled w y v room absent).well_formed))
    where
      u : View
      u = view m k

      i : ℕ
      i = fill_spot u

      ps : List Pair
      ps = entry_pairs k i (key, v)

      parts : (stored ps ++ (fence ∷ [])) ++ once (slot_at k) (taken_slot u key i) ≡ fill_events k u (key, v)
      parts = append_assoc (stored ps) (fence ∷ []) (once (slot_at k) (taken_slot u key i))

      small : i < entries
      small = spot_below u.named room

      free : (x : ℕ) → Addressed x ps → ¬ Reads m x
      free x (inl e) = entry_unread w k i (leaf_range w y).0 small (spot_unused u.named room) (inl (sym e))
      free x (inr (inl e)) = entry_unread w k i (leaf_range w y).0 small (spot_unused u.named room) (inr (sym e))
      free x (inr (inr e)) = absurd e

      prepares : Prepares (Reads m) (stored ps ++ (fence ∷ []))
      prepares = prepares_fence (stored ps) (λ x. flushed_stored x ps) (λ x s. free x ((stores_stored x ps).0 s))
