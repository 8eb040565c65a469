-- The leaf that the way down reached: it is good, and what stands under the key there.
use Prim.Native.Nat.{ℕ, zero, suc, ◌≤◌, ◌<◌}
use mathlib.Core.Path.{◌≡◌, refl, sym, ◌∙◌, ap}
use mathlib.Core.List.{List, [], ◌∷◌}
use mathlib.Core.Bool.{true}
use mathlib.Core.Option.{some}
use native.Mathlib.Omega.{arith}
use lib.ListN.{length, get_or}
use Rattle.std.specs.Prelude.{Result, Ok, Err}
use Rattle.words.specs.Tests.{within}
use Rattle.words.specs.Event.{at}
use Rattle.node.specs.Lists.{rising}
use Rattle.node.specs.Slot.{count, names}
use Rattle.node.specs.View.{view, keys, good, value_at}
use Rattle.node.proofs.Ranks.{found_at, below_length}
use Rattle.node.proofs.Views.{Good, good_parts, view_names, keys_many}
use Rattle.tree.specs.declared.descend.Seat.{Seat}
use Rattle.tree.specs.Header.{used_of, form_agrees}
use Rattle.tree.specs.Kids.{Kid, pick, root_kid, leaf_least, inner_least, fits}
use Rattle.tree.specs.Path.{Way, leaf, parent, way, levels_above}
use Rattle.tree.specs.Map.{find}
use Rattle.node.specs.inner.Looked.{Placed}
use Rattle.tree.specs.inner.Descended.{Seated}
use Rattle.tree.proofs.Find.{find_present}
use Rattle.tree.proofs.Path.{Passed, passed, way_to_counts, way_to_down}
use Rattle.tree.proofs.Kids.{Named, named_at, good_named}
use Rattle.tree.proofs.Ways.{inside}

-- node k is in use, and good under some cover
pub record GoodLeaf (m : List ℕ) (k : ℕ) : Type 0 where
  pub in_use : within 1 k (used_of m) ≡ true
  pub from : ℕ
  pub upto : ℕ
  pub is_good : good leaf_least from upto (view m k) ≡ true

pub way_good : (n : ℕ) (m : List ℕ) (key : ℕ) (c : Kid) (up : List ℕ) {k : ℕ} {above : List ℕ} → way n m key c up ≡ leaf k above
    → GoodLeaf m k
unfolding way
way_good zero m key c up {k} {above} e =
    let u : Way = leaf c.number up in
    let p : Passed _ _ u (leaf k above) =
    passed (within 1 c.number (used_of m)) (fits leaf_least c (view m c.number)) (parent up) c.number u e in
    let same : c.number ≡ k = let r = p.rest in cc in
    rw (← same) (record { in_use = p.first; from = c.from; upto = c.upto; is_good = p.second })
way_good (suc n) m key c up {k} {above} e =
    let down : Way = way n m key (pick key c (view m c.number)) (c.number ∷ up) in
    let p : Passed _ _ down (leaf k above) =
    passed (within 1 c.number (used_of m)) (fits inner_least c (view m c.number)) (parent up) c.number down e in
    way_good n m key (pick key c (view m c.number)) (c.number ∷ up) p.rest

-- the leaf that the way down to a key found, its names, and the key's place there
pub record AtLeaf (m : List ℕ) (key : ℕ) (s : Seat) : Type 0 where
  pub seated : Seated m key s
  pub named : Named m s.leaf s.slot
  pub names_are : (view m s.leaf).named ≡ names s.slot
  pub rising_keys : rising (keys (view m s.leaf).records) ≡ true

pub at_leaf : (m : List ℕ) (key : ℕ) (s : Seat) → form_agrees m ≡ true → Seated m key s → AtLeaf m key s
at_leaf m key s f w =
    let g : GoodLeaf m s.leaf = way_good (levels_above m) m key (root_kid m) [] (way_to_down m key w.way_is) in
    let p : Good leaf_least g.from g.upto (view m s.leaf) = good_parts g.is_good in
    let n : (view m s.leaf).named ≡ names s.slot = view_names m s.leaf ∙ rw w.slot_is refl in
    record {
      seated = w;
      named = good_named p (inside m f (way_to_counts m key w.way_is) s.leaf g.in_use) w.slot_is;
      names_are = n;
      rising_keys = p.keys_rise;
    }

-- what stands there under the key
module _ {m : List ℕ} {key : ℕ} {s : Seat} (a : AtLeaf m key s) where
  keys_count : length (keys (view m s.leaf).records) ≡ count s.slot
  keys_count =
      keys_many m s.leaf ∙ ap count (sym a.named.word)

  pub placed : {r : Result ℕ ℕ} → s.place ≡ r → Placed key (view m s.leaf) r
  placed e = rw e at a.seated.place_is

  module _ {r : ℕ} (e : s.place ≡ Err r) where
    pub rank_few : r ≤ count s.slot
    rank_few = omega (arith, (placed e).0, keys_count, below_length key (keys (view m s.leaf).records))

  module _ {r : ℕ} (e : s.place ≡ Ok r) where
    pub rank_there : r < count s.slot
    rank_there =
        let ks = keys (view m s.leaf).records in
        omega (arith, (placed e).0, keys_count, (found_at key ks a.rising_keys (placed e).1).0)

    pub found_value : {i v : ℕ} → i ≡ get_or (names s.slot) r 0 → v ≡ at m (value_at s.leaf i)
        → find key (view m s.leaf).records ≡ some v
    found_value i v =
        find_present key (view m s.leaf).records a.rising_keys (placed e).1
        ∙ rw (← (placed e).0, (named_at m s.leaf s.slot a.named r rank_there i).1, v) refl
