-- A pool after a change of one leaf: well formed, and only the key named changes.
use Prim.Native.Nat.{ℕ, ◌≤◌, ◌<◌}
use mathlib.Core.Path.{◌≡◌, ◌∙◌, ap, fun_ext}
use mathlib.Core.List.{List, ◌++◌}
use mathlib.Core.Bool.{true, false}
use mathlib.Core.Option.{Option, none, some}
use native.Mathlib.Omega.{arith}
use lib.Dec.{eqb}
use lib.ListN.{length, set, length-append, length-take, length-drop, length-set}
use Rattle.std.specs.Prelude.{if◌then◌else◌}
use Rattle.words.specs.Pool.{commit_at}
use Rattle.words.specs.Event.{at}
use Rattle.node.specs.Lists.{remove, has}
use Rattle.node.specs.Slot.{entries}
use Rattle.node.specs.View.{Record, view, keys, rank}
use Rattle.tree.specs.Header.{used_of}
use Rattle.tree.specs.Kids.{fits, leaf_least}
use Rattle.tree.specs.WellFormed.{WellFormed}
use Rattle.tree.specs.Map.{Map, find, records_of, map_of}
use Rattle.tree.specs.Halves.{eight}
use Rattle.tree.proofs.Keys.{rise_insert, rise_remove, keys_set}
use Rattle.tree.proofs.Fits.{Node, fits_says, Says, says_fits, view_sized}
use Rattle.tree.proofs.Form.{header_well_formed, header_records}
use Rattle.tree.proofs.Find.{find_changed, find_insert, find_set, find_remove}
use Rattle.tree.proofs.Way.{Reached}
use Rattle.tree.proofs.Map.{records_left, records_right, records_at, miss_left, miss_right}
use Rattle.tree.proofs.Leaf.{leaf_whole, leaf_records}
use Rattle.tree.proofs.Eight.{eight_more}

-- a map with what it holds under a key changed
abbrev pub with_key : ℕ → Option ℕ → Map → Map
with_key key o f q = if eqb q key then o else f q

-- the pool after a change of key to o
pub record After (m m' : List ℕ) (key : ℕ) (o : Option ℕ) : Type 0 where
  pub well_formed : WellFormed m'
  pub map_is : map_of m' ≡ with_key key o (map_of m)

-- m' is m, but for node k and for words that reading does not look at
pub record Elsewhere (m m' : List ℕ) (k : ℕ) : Type 0 where
  pub size : length m' ≡ length m
  pub header : (i : ℕ) → i ≤ commit_at → at m' i ≡ at m i
  pub off : (j : ℕ) → 1 ≤ j → j ≤ used_of m → (j ≡ k → ⊥) → view m' j ≡ view m j

-- records that change between those left and right of the leaf
pub changed_map : (m' : List ℕ) {m : List ℕ} {key : ℕ} (y : Reached m key) (rs : List Record) (o : Option ℕ)
    → records_of m' ≡ records_left y ++ (rs ++ records_right y)
    → ((q : ℕ) → find q rs ≡ with_key key o (λ (j : ℕ). find j (view m y.place.number).records) q)
    → map_of m' ≡ with_key key o (map_of m)
changed_map m' {m} {key} y rs o e f = fun_ext (λ q.
    ap (find q) e
    ∙ find_changed key o (records_left y) (view m y.place.number).records rs (records_right y) (miss_left y) (miss_right y) f q
    ∙ rw (← records_at y))

module _ {m m' : List ℕ} {key : ℕ} (w : WellFormed m) (y : Reached m key) (e : Elsewhere m m' y.place.number) where
  abbrev k : ℕ
  k = y.place.number

  abbrev rs : List Record
  rs = (view m k).records

  node : Node leaf_least y.place.from y.place.upto (view m k)
  node = fits_says leaf_least y.place.from y.place.upto (view m k) y.fit

  few : length rs ≤ entries
  few = omega (arith, view_sized m k, node.names.few)

  -- any other view that fits the leaf's cover and has its link
  pub leaf_after : (o : Option ℕ) → fits leaf_least y.place (view m' k) ≡ true → (view m' k).link ≡ (view m k).link
      → ((q : ℕ) → find q (view m' k).records ≡ with_key key o (λ (j : ℕ). find j rs) q) → After m m' key o
  leaf_after o fit link f = record {
    well_formed = header_well_formed m m' e.size e.header w (leaf_whole w.whole y.around e.off fit link);
    map_is = changed_map m' y (view m' k).records o
        (header_records m m' e.size e.header ∙ leaf_records w.whole y.around e.off fit link) f;
  }

  -- a record put into a leaf with room
  pub put_after : (v : ℕ) → has key (keys rs) ≡ false → length (view m k).named < entries
      → Says (view m') k (view m k).link (eight (view m k) (key, v)) → After m m' key (some v)
  put_after v absent room s =
      leaf_after (some v)
      (says_fits s (omega arith) (omega (arith, eight_more (view m k) (key, v), view_sized m k))
      (rise_insert (key, v) rs node.rises y.from y.upto absent))
      s.links
      (λ q. rw s.holds (find_insert key v rs q))

  module _ (present : has key (keys rs) ≡ true) where
    -- a value replaced
    pub replace_after : (v : ℕ) → Says (view m') k (view m k).link (set rs (rank (view m k) key) (key, v)) → After m m' key (some v)
    replace_after v s =
        leaf_after (some v)
        (says_fits s (omega arith) (rw length-set few) (rw (keys_set key v rs node.rises present) node.rises))
        s.links
        (λ q. rw s.holds (find_set key v rs node.rises present q))

    -- a record deleted
    pub delete_after : Says (view m') k (view m k).link (remove (rank (view m k) key) rs) → After m m' key none
    delete_after s =
        leaf_after none
        (says_fits s (omega arith) (rw (length-append, length-take, length-drop) (omega (arith, few)))
        (rise_remove (rank (view m k) key) rs node.rises))
        s.links
        (λ q. rw s.holds (find_remove key rs node.rises present q))
