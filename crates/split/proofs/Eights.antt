-- The eight records of a full node and a new one, by their names.
use Prim.Native.Nat.{ℕ, zero, suc, ◌-◌, ◌≤◌, ◌<◌}
use mathlib.Core.Path.{◌≡◌, refl, ◌∙◌, ap, sym}
use mathlib.Core.List.{List, [], ◌∷◌, map}
use mathlib.Core.Bool.{true, false}
use native.Mathlib.Omega.{arith}
use lib.ListN.{length, get_or, take, length-map}
use lib.Seq.{length-take-le}
use borrow.Author.Tests.{eqb-true, eq-eqb, ne_eqb, lt-ltb, le-leb}
use Rattle.words.specs.Event.{at}
use Rattle.node.specs.Lists.{insert, all_below, covered}
use Rattle.node.specs.Slot.{bytes, count, names, entries, slot, spot}
use Rattle.node.specs.View.{Record, view, keys, rank, entry, slot_at, key_at, good, no_end}
use Rattle.node.specs.declared.layout.Node.{Node}
use Rattle.node.specs.inner.Looked.{Inside}
use Rattle.node.proofs.Digits.{bytes_take}
use Rattle.node.proofs.Places.{length_insert, getD_insert}
use Rattle.node.proofs.Every.{below_insert, below_at}
use Rattle.node.proofs.Ranks.{below_length}
use Rattle.node.proofs.Slots.{length_names}
use Rattle.node.proofs.Spots.{spot_below}
use Rattle.node.proofs.Views.{key_of, Good, good_parts, parts_good, view_names, view_keys, view_length}
use Rattle.tree.specs.Kids.{leaf_least}
use Rattle.tree.specs.Halves.{lower, eight}
use Rattle.change.specs.Steps.{full, lower_slot}
use Rattle.change.proofs.Counts.{length_eight}
use Rattle.split.specs.inner.Opened.{Met, Opened}

-- words of 64 bits are below the end of the widest cover
covered_all : (m : List ℕ) (k : ℕ) (ns : List ℕ) → ((i : ℕ) → at m i < no_end) → covered 0 no_end (map (key_of m k) ns) ≡ true
unfolding covered
covered_all m k [] fits = refl
covered_all m k (e ∷ es) fits =
    rw (le-leb 0 (key_of m k e) (omega arith), lt-ltb (key_of m k e) no_end (fits (key_at k e))) (covered_all m k es fits)

-- what the way down met, in a memory of such words
pub met_good : (m : List ℕ) (k least lo hi : ℕ) → ((i : ℕ) → at m i < no_end) → Inside m k
    → good least lo hi (view m k) ≡ true → Met m k
met_good m k least lo hi fits inside t =
    let g = good_parts t in
    record {
      inside = inside;
      good_is = parts_good (record {
        least_named = omega arith;
        most_named = g.most_named;
        names_low = g.names_low;
        names_differ = g.names_differ;
        keys_rise = g.keys_rise;
        keys_covered = rw (view_keys m k) (covered_all m k (view m k).named fits);
      });
    }

-- the slot word of node k of m
pub node_slot : {m : List ℕ} {k : ℕ} (n : Node) → n.pool.now ≡ m → n.number ≡ k → n.slot ≡ at m (slot_at k)
node_slot n p q = rw (← p, ← q) n.slot_is

length_named : (m : List ℕ) (k : ℕ) → length (view m k).named ≡ count (at m (slot_at k))
length_named m k = ap length (view_names m k) ∙ length_names (at m (slot_at k))

module _ {m : List ℕ} {k : ℕ} (t : Met m k) where
  parts : Good leaf_least 0 no_end (view m k)
  parts = good_parts t.good_is

  pub met_count : count (at m (slot_at k)) ≤ entries
  met_count = omega (arith, length_named m k, parts.most_named)

  pub met_full : count (at m (slot_at k)) ≡ entries → full (view m k) ≡ true
  met_full e = eq-eqb (length (view m k).named) entries (length_named m k ∙ e)

  pub met_room : (count (at m (slot_at k)) ≡ entries → ⊥) → full (view m k) ≡ false
  met_room n = ne_eqb (length (view m k).named) entries (λ e. n (sym (length_named m k) ∙ e))

  -- the same of the node as the code has it, by the count that was taken of its slot word
  module _ (n : Node) (p : n.pool.now ≡ m) (q : n.number ≡ k) {c : ℕ} (e : c ≡ count n.slot) where
    pub node_full : c ≡ entries → full (view m k) ≡ true
    node_full f = met_full (rw (node_slot n p q) at (sym e ∙ f))

    pub node_room : (c ≡ entries → ⊥) → full (view m k) ≡ false
    node_room f = met_room (λ r. f (e ∙ rw (node_slot n p q) r))

  pub full_count : full (view m k) ≡ true → count (at m (slot_at k)) ≡ entries
  full_count e = sym (length_named m k) ∙ eqb-true (length (view m k).named) entries e

  pub rank_le : (key : ℕ) → rank (view m k) key ≤ count (at m (slot_at k))
  rank_le key =
      omega (arith, below_length key (keys (view m k).records), length-map (view m k).records (λ (r : Record). r.0), view_length m k)

  -- a full node is opened by its slot word
  pub opened_in : {w r ns e key : ℕ} → w ≡ at m (slot_at k) → count w ≡ entries → r ≡ rank (view m k) key
      → e ≡ spot (take (lower - 1) (names w)) → bytes 8 ns ≡ insert r e (names w) → Opened m k r ns e key
  opened_in e c q spot_is names_are = record {
    met = t;
    full_is = met_full (rw (← e) c);
    rank_is = q;
    spot_is = rw (view_names m k, ← e) spot_is;
    names_are = rw (view_names m k, ← e) names_are;
  }

-- something put in, and the places beside it
beside : (h : ℕ → Record) (i : ℕ) (x : Record) (e : ℕ) (ns : List ℕ) (j : ℕ) (d : Record) → i ≤ length ns → (j ≡ i → ⊥) → j ≤ length ns
    → get_or (insert i x (map h ns)) j d ≡ h (get_or (insert i e ns) j 0)
beside h zero x e ns zero d b ne l = absurd (ne refl)
beside h zero x e ns (suc j) d b ne l = within ns j l
  where
    within : (ns : List ℕ) (j : ℕ) → suc j ≤ length ns → get_or (map h ns) j d ≡ h (get_or ns j 0)
    within [] j l = absurd (omega arith)
    within (n ∷ ns) zero l = refl
    within (n ∷ ns) (suc j) l = within ns j (omega arith)
beside h (suc i) x e [] j d b ne l = absurd (omega arith)
beside h (suc i) x e (n ∷ ns) zero d b ne l = refl
beside h (suc i) x e (n ∷ ns) (suc j) d b ne l = beside h i x e ns j d (omega arith) (λ q. ne (ap suc q)) (omega arith)

module _ {m : List ℕ} {k r ns e : ℕ} (x : Record) (o : Opened m k r ns e x.0) where
  length_seven : length (view m k).named ≡ entries
  length_seven = eqb-true (length (view m k).named) entries o.full_is

  pub opened_eight : length (eight (view m k) x) ≡ 8
  opened_eight = length_eight m k x o.full_is

  rank_low : r ≤ length (view m k).records
  rank_low = rw (o.rank_is, view_length m k) (rank_le o.met x.0)

  -- the new record at its rank, and the others by their names
  pub at_rank : (i : ℕ) → i ≡ r → x ≡ get_or (eight (view m k) x) i (0, 0)
  at_rank i q = rw (q, ← o.rank_is) (sym (getD_insert r x (view m k).records (0, 0) rank_low))

  pub at_name : (i : ℕ) → i < 8 → (i ≡ r → ⊥) → entry m k (get_or (bytes 8 ns) i 0) ≡ get_or (eight (view m k) x) i (0, 0)
  unfolding view
  at_name i h ne =
      let low : r ≤ length (view m k).named = omega (arith, rank_low, view_length m k, length_named m k) in
      rw (o.names_are, ← o.rank_is)
      (sym (beside (entry m k) r x e (view m k).named i (0, 0) low ne (omega (arith, length_seven))))

  pub spot_low : e < entries
  spot_low =
      let three = length-take-le (lower - 1) (view m k).named (omega (arith, length_seven)) in
      rw o.spot_is (spot_below (take (lower - 1) (view m k).named) (rw three (omega arith)))

  pub name_low : (i : ℕ) → i < 8 → get_or (bytes 8 ns) i 0 < entries
  name_low i h =
      let own = (view m k).named in
      let low : all_below entries (insert r e own) ≡ true =
      rw (below_insert entries r e own, lt-ltb e entries spot_low) (parts o.met).names_low in
      rw o.names_are (below_at entries i (insert r e own) low (rw (length_insert r e own) (omega (arith, length_seven))))

  -- the slot word of the lower four
  pub slot_lower : slot (bytes lower ns) ≡ lower_slot (view m k) x.0
  slot_lower = rw (bytes_take lower 8 ns (omega arith), o.names_are, o.rank_is, o.spot_is)
