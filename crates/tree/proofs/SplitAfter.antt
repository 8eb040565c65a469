-- The pool after a split: from what each node touched says and the words of the header, well formed with the new record in its map.
use Prim.Native.Nat.{ℕ, suc, ◌+◌, ◌-◌, ◌≤◌, ◌<◌}
use mathlib.Core.Path.{◌≡◌, refl, ◌∙◌}
use mathlib.Core.List.{List, [], ◌∷◌, ◌++◌}
use mathlib.Core.Bool.{false}
use mathlib.Core.Option.{some}
use native.Mathlib.Omega.{arith}
use native.Mathlib.Decide.{dec_le}
use lib.ListN.{length}
use borrow.Author.Tests.{eq-eqb, ne_eqb}
use Rattle.words.specs.Pool.{used_at}
use Rattle.words.specs.Event.{at}
use Rattle.node.specs.Lists.{has}
use Rattle.node.specs.Slot.{entries}
use Rattle.node.specs.View.{Record, view, keys, no_end}
use Rattle.tree.specs.Header.{capacity_of, used_of, root_of, height_of, commit_of}
use Rattle.tree.specs.Kids.{kid}
use Rattle.tree.specs.Path.{levels_above}
use Rattle.tree.specs.Lists.{occ}
use Rattle.tree.specs.WellFormed.{Views, Whole, WellFormed}
use Rattle.tree.specs.Map.{records_of}
use Rattle.tree.specs.Halves.{eight, lower_four, upper_four, fifth, upper_three, supply, used_with}
use Rattle.tree.proofs.Fits.{Says, view_sized}
use Rattle.tree.proofs.Form.{Form, form, Counts, counts, counts_back, form_same}
use Rattle.tree.proofs.Frame.{On, head_in}
use Rattle.tree.proofs.Hole.{above}
use Rattle.tree.proofs.Find.{find_insert}
use Rattle.tree.proofs.Way.{Reached}
use Rattle.tree.proofs.Map.{records_left, records_right}
use Rattle.tree.proofs.After.{After, changed_map}
use Rattle.tree.proofs.Rise.{Grown, crowned, took, halved}
use Rattle.tree.proofs.Count.{nine_levels, needs}
use Rattle.tree.proofs.Split.{Parted, split_whole, split_records}

-- as many new nodes as the record that goes up needs
grown_needs : {U U' : Views} {used root H i d root' H' : ℕ} {ks : List ℕ} {r : Record} → Grown U U' used root H ks r i d root' H'
    → d ≡ i + needs U ks
grown_needs (crowned g) = refl
grown_needs {U} (took {k = k} room s o) = rw (ne_eqb (length (U k).named) entries (omega arith)) (omega arith)
grown_needs {U} (halved {k = k} full s t g) = rw (eq-eqb (length (U k).named) entries full) (omega (arith, grown_needs g))

-- in m' the record r has gone up into the nodes ks of m, with i new nodes made before, and the header says so
pub record Risen (m m' ks : List ℕ) (r : Record) (i : ℕ) : Type 0 where
  pub made : ℕ
  pub root : ℕ
  pub levels : ℕ
  pub grown : Grown (view m) (view m') (used_of m) (root_of m) (levels_above m) ks r i made root levels
  pub used_is : used_of m' ≡ used_with (used_of m) made
  pub root_is : root_of m' ≡ root
  pub height_is : height_of m' ≡ levels + 1

module _ {m m' : List ℕ} {r : Record} {i : ℕ} where
  pub risen_root : 1 ≤ height_of m → Says (view m') (supply (used_of m) i) (root_of m) (r ∷ [])
      → used_of m' ≡ used_with (used_of m) (i + 1) → root_of m' ≡ supply (used_of m) i → height_of m' ≡ height_of m + 1 → Risen m m' [] r i
  risen_root p s u t h = record {
    made = i + 1;
    root = supply (used_of m) i;
    levels = suc (levels_above m);
    grown = crowned s;
    used_is = u;
    root_is = t;
    height_is = omega arith;
  }

  module _ {k : ℕ} {ks : List ℕ} where
    pub risen_room : 1 ≤ height_of m → length (view m k).named < entries
        → Says (view m') k (view m k).link (eight (view m k) r) → On (view m) (view m') ks
        → used_of m' ≡ used_with (used_of m) i → root_of m' ≡ root_of m → height_of m' ≡ height_of m → Risen m m' (k ∷ ks) r i
    risen_room p room s o u t h = record {
      made = i;
      root = root_of m;
      levels = levels_above m;
      grown = took room s o;
      used_is = u;
      root_is = t;
      height_is = omega arith;
    }

    pub risen_full : length (view m k).named ≡ entries → Says (view m') k (view m k).link (lower_four (view m k) r)
        → Says (view m') (supply (used_of m) i) (fifth (view m k) r).1 (upper_three (view m k) r)
        → Risen m m' ks ((fifth (view m k) r).0, supply (used_of m) i) (i + 1) → Risen m m' (k ∷ ks) r i
    risen_full full s t g = record {
      made = g.made;
      root = g.root;
      levels = g.levels;
      grown = halved full s t g.grown;
      used_is = g.used_is;
      root_is = g.root_is;
      height_is = g.height_is;
    }

-- what a split leaves, with the leaf and the new leaf beside it
pub record SplitTo (m m' : List ℕ) {key : ℕ} (y : Reached m key) (v : ℕ) : Type 0 where
  pub size : length m' ≡ length m
  pub header : (i : ℕ) → i < used_at → at m' i ≡ at m i
  pub clean : commit_of m' ≡ 0
  pub off : (j : ℕ) → 1 ≤ j → j ≤ used_of m → occ j (y.place.number ∷ above y.up) ≡ 0 → view m' j ≡ view m j
  pub full : length (view m y.place.number).named ≡ entries
  pub absent : has key (keys (view m y.place.number).records) ≡ false
  pub low : Says (view m') y.place.number (supply (used_of m) 0) (lower_four (view m y.place.number) (key, v))
  pub high : Says (view m') (supply (used_of m) 0) (view m y.place.number).link (upper_four (view m y.place.number) (key, v))
  pub risen : Risen m m' (above y.up) ((fifth (view m y.place.number) (key, v)).0, supply (used_of m) 0) 1

module _ {m m' : List ℕ} {key v : ℕ} (w : WellFormed m) (y : Reached m key) (s : SplitTo m m' y v)
    (room : needs (view m) (y.place.number ∷ above y.up) ≤ capacity_of m - used_of m) where
  abbrev k : ℕ
  k = y.place.number

  abbrev d : ℕ
  d = s.risen.made

  parted : Parted (view m) (view m') (used_of m) y.place (key, v)
  parted = record { full = s.full; absent = s.absent; from = y.from; upto = y.upto; low = s.low; high = s.high }

  whole : Whole (view m') (used_with (used_of m) d) s.risen.levels s.risen.root
  whole = split_whole (view_sized m) w.whole y.around y.fit s.off parted s.risen.grown

  size_of : Form m
  size_of = form m w.form

  counts_are : Counts m
  counts_are = counts m w.counts

  fits_in : used_with (used_of m) d ≤ capacity_of m
  fits_in =
      let r : suc (needs (view m) (above y.up)) ≤ capacity_of m - used_of m =
      rw (eq-eqb (length (view m k).named) entries s.full) at room in
      omega (arith, grown_needs s.risen.grown, counts_are.used)

  -- nine levels would need more nodes than there can be
  not_nine : s.risen.levels ≤ 7
  not_nine = go (dec_le s.risen.levels 7)
    where
      go : Dec (s.risen.levels ≤ 7) → s.risen.levels ≤ 7
      go (yes p) = p
      go (no p) =
          let n : 43691 ≤ used_with (used_of m) d = nine_levels (view_sized m') whole (omega arith) in
          absurd (omega (arith, fits_in, size_of.capacity))

  root_range : (1 ≤ s.risen.root) × (s.risen.root ≤ used_with (used_of m) d)
  root_range = whole.only s.risen.root (head_in (view m') s.risen.levels (kid s.risen.root 0 no_end))

  levels_are : levels_above m' ≡ s.risen.levels
  levels_are = omega (arith, s.risen.height_is)

  counts_after : Counts m'
  counts_after =
      let c : capacity_of m' ≡ capacity_of m = s.header 4 (omega arith) in
      record {
        used = rw (s.risen.used_is, c) (omega (arith, counts_are.used), fits_in);
        root = rw (s.risen.used_is, s.risen.root_is) root_range;
        height = rw s.risen.height_is (omega (arith, not_nine));
      }

  pub split_after : After m m' key (some v)
  split_after = record {
    well_formed = record {
      clean = s.clean;
      form = form_same m m' s.size s.header ∙ w.form;
      counts = counts_back m' counts_after;
      whole = rw (s.risen.used_is, s.risen.root_is, levels_are) whole;
    };
    map_is = changed_map m' y (eight (view m k) (key, v)) (some v) records_are (find_insert key v (view m k).records);
  }
    where
      records_are : records_of m' ≡ records_left y ++ (eight (view m k) (key, v) ++ records_right y)
      records_are =
          rw (s.risen.root_is, levels_are)
          (split_records (view_sized m) w.whole y.around y.fit s.off parted s.risen.grown)
