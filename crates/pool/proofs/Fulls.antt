-- A put into a full leaf: what the way down has shown, and the returns.
use Prim.Native.Nat.{ℕ, suc, ◌-◌, ◌≤◌, ◌<◌}
use mathlib.Core.Path.{◌≡◌, refl, sym, ◌∙◌, ap}
use mathlib.Core.List.{List, [], ◌∷◌}
use mathlib.Core.Bool.{true, false}
use native.Mathlib.Omega.{arith}
use lib.ListN.{length, take, drop, get_or}
use lib.Seq.{length-take-le}
use borrow.Author.Tests.{lt-ltb, le-ltb, eq-eqb}
use Rattle.std.specs.Prelude.{Ok, Err}
use Rattle.words.specs.Pool as p
use Rattle.words.specs.Event.{at}
use Rattle.words.specs.declared.refusal.Refusal.TheVariants.{Damaged, NoRoom}
use Rattle.node.specs.Lists.{has}
use Rattle.node.specs.Slot.{count, entries}
use Rattle.node.specs.View.{view, keys, no_end}
use Rattle.node.proofs.Slots.{length_names}
use Rattle.tree.specs.Header.{capacity_of, used_of, height_of, counts_agree}
use Rattle.tree.specs.Path.{levels_above, leaf, way_to}
use Rattle.tree.specs.Lists.{Each}
use Rattle.tree.specs.declared.descend.Seat.{Seat}
use Rattle.tree.specs.inner.Descended.{above_of, Seated, Pathed}
use Rattle.tree.proofs.Form.{counts}
use Rattle.tree.proofs.Path.{way_to_counts}
use Rattle.tree.proofs.Leaves.{AtLeaf, at_leaf as leaf_found}
use Rattle.change.specs.declared.Outcome.TheVariants.{New}
use Rattle.change.specs.Gate.{refused}
use Rattle.change.specs.Steps.{full}
use Rattle.change.specs.Plan.{plan_events}
use Rattle.change.specs.Put.{needed, split, put_at}
use Rattle.pool.specs.inner.Passing.{Admitted}
use Rattle.pool.specs.inner.Puts.{Full, put_there}
use Rattle.split.specs.inner.Opened.{Met}
use Rattle.split.specs.inner.Splitting.{ToSplit}
use Rattle.split.proofs.Meets.{way_to_met}

-- a path of a leaf and the nodes above it
path_is : (path : List ℕ) (n k : ℕ) → length path ≡ 8 → get_or path 0 0 ≡ k → take (suc n) path ≡ k ∷ take n (drop 1 path)
path_is [] n k long e = absurd (omega arith)
path_is (x ∷ ps) n k long e = rw e

-- the leaf of a seat that is full and has not the key
pub full_at : {m : List ℕ} {key r : ℕ} {s : Seat} → Admitted m key s → s.place ≡ Err r → count s.slot ≡ entries
    → Full m key r
full_at {s = s} p e full =
    let w = p.seated in
    record {
      leaf = s.leaf;
      slot = s.slot;
      admitted = record {
        form_is = p.form_is;
        finished = p.finished;
        seated = record { way_is = w.way_is; slot_is = w.slot_is; place_is = rw e at w.place_is };
      };
      full = full;
    }

module _ {m : List ℕ} {key rank : ℕ} (f : Full m key rank) where
  abbrev s : Seat
  s = record { leaf = f.leaf; slot = f.slot; place = Err rank }

  abbrev above : List ℕ
  above = above_of (way_to m key)

  abbrev seated : Seated m key s
  seated = f.admitted.seated

  pub leaf_there : AtLeaf m key s
  leaf_there = leaf_found m key s f.admitted.form_is seated

  pub counts_hold : counts_agree m ≡ true
  counts_hold = way_to_counts m key seated.way_is

  pub absent_is : has key (keys (view m s.leaf).records) ≡ false
  absent_is = seated.place_is.1

  pub full_is : full (view m s.leaf) ≡ true
  full_is = eq-eqb _ _ (ap length leaf_there.names_are ∙ length_names f.slot ∙ f.full)

  -- the levels of the path, the leaf's and those above
  module _ {path : List ℕ} (q : Pathed m key path) where
    same_way : leaf (get_or path 0 0) (take (levels_above m) (drop 1 path)) ≡ leaf s.leaf above
    same_way = sym q.way_is ∙ seated.way_is

    pub first_is : get_or path 0 0 ≡ s.leaf
    first_is = let e = same_way in cc

    rest_is : take (levels_above m) (drop 1 path) ≡ above
    rest_is = let e = same_way in cc

    taken_are : take (height_of m) path ≡ s.leaf ∷ above
    taken_are =
        let h : height_of m ≡ suc (levels_above m) = omega (arith, (counts m counts_hold).height.0) in
        ap (λ (n : ℕ). take n path) h ∙ path_is path (levels_above m) s.leaf q.eight_is first_is ∙ rw rest_is refl

    pub path_met : ((i : ℕ) → at m i < no_end) → Each (Met m) (take (height_of m) path)
    path_met words = rw taken_are (way_to_met m key words f.admitted.form_is seated.way_is)

    pub path_long : length (take (height_of m) path) ≡ height_of m
    path_long = length-take-le (height_of m) path (omega (arith, (counts m counts_hold).height.1, q.eight_is))

    -- the nodes that are needed, as they were counted
    module _ {n : ℕ} (counted : n ≡ needed m (take (height_of m) path)) where
      needed_is : n ≡ needed m (s.leaf ∷ above)
      needed_is = counted ∙ rw taken_are refl

      pub to_split : ((i : ℕ) → at m i < no_end) → n ≤ p.height_most → n ≤ capacity_of m - used_of m
          → ToSplit m (take (height_of m) path) rank key
      to_split words few free =
          let c = counts m counts_hold in
          record {
            form = f.admitted.form_is;
            counts = counts_hold;
            high = omega (arith, path_long, c.height.1);
            some = omega (arith, path_long, c.height.0);
            nodes = path_met words;
            full_is = rw taken_are full_is;
            rank_is = seated.place_is.0 ∙ rw taken_are refl;
            need = rw (← counted) few;
            free = rw (← counted) free;
          }

      -- the returns: too few nodes, too many levels, or split
      module _ (value : ℕ) where
        pub full_crowded : capacity_of m - used_of m < n → put_there m key value ≡ refused NoRoom
        unfolding put_at
        full_crowded h = rw (seated.way_is, absent_is, full_is, lt-ltb _ _ (rw needed_is at h))

        pub full_high : n ≤ capacity_of m - used_of m → p.height_most < n → put_there m key value ≡ refused Damaged
        unfolding put_at
        full_high h k = rw (seated.way_is, absent_is, full_is, le-ltb _ _ (rw needed_is at h), lt-ltb _ _ (rw needed_is at k))

        pub full_split : n ≤ capacity_of m - used_of m → n ≤ p.height_most
            → put_there m key value ≡ record {
              answer = Ok New;
              events = plan_events (split m (get_or (take (height_of m) path) 0 0) (drop 1 (take (height_of m) path)) (key, value));
            }
        unfolding put_at
        full_split h k =
            rw (taken_are, seated.way_is, absent_is, full_is, le-ltb _ _ (rw needed_is at h), le-ltb _ _ (rw needed_is at k))
