-- The put that splits a full leaf of a well-formed pool: where it stores, and what it leaves.
use Prim.Native.Nat.{ℕ, ◌+◌, ◌-◌, ◌≤◌, ◌<◌}
use mathlib.Core.Path.{◌≡◌, refl, subst}
use mathlib.Core.Logic.{inl, inr}
use mathlib.Core.List.{List, [], ◌∷◌}
use mathlib.Core.Bool.{Bool, true, false}
use mathlib.Core.Option.{some}
use native.Mathlib.Omega.{arith}
use lib.ListN.{length}
use borrow.Author.Tests.{eqb-true}
use Rattle.words.specs.Pool.{node_at, used_at, commit_at, log_at, nodes_at, pairs_most}
use Rattle.words.specs.Event.{at, run}
use Rattle.words.specs.Blocks.{Pair}
use Rattle.words.proofs.Events.{length_run}
use Rattle.node.specs.Lists.{has}
use Rattle.node.specs.Slot.{entries}
use Rattle.node.specs.View.{Record, View, view, keys, link_at}
use Rattle.tree.specs.Header.{total_in, capacity_of, used_of}
use Rattle.tree.specs.Lists.{occ}
use Rattle.tree.specs.WellFormed.{WellFormed}
use Rattle.tree.specs.Halves.{lower, upper_four, fifth, supply}
use Rattle.tree.proofs.Fits.{Named}
use Rattle.tree.proofs.Form.{form, counts}
use Rattle.tree.proofs.Frame.{whole_named}
use Rattle.tree.proofs.Hole.{above}
use Rattle.tree.proofs.Along.{along_range, along_once}
use Rattle.tree.proofs.Way.{Reached}
use Rattle.tree.proofs.After.{After}
use Rattle.tree.proofs.Count.{needs, split_needs}
use Rattle.tree.proofs.SplitAfter.{SplitTo, split_after}
use Rattle.change.specs.Steps.{full, new_node, staying_pairs}
use Rattle.change.specs.Plan.{Plan, plan_events}
use Rattle.change.specs.Put.{rise, split, needed}
use Rattle.change.specs.Most.{split_levels, Counted}
use Rattle.change.proofs.Counts.{counted}
use Rattle.change.proofs.Pairs.{Within, Between, within_at, within_off, within_weaken}
use Rattle.change.proofs.Nodes.{InNode, view_still}
use Rattle.change.proofs.Goes.{node_pairs, AllGo, plan_goes}
use Rattle.change.proofs.Halves.{leaf_stays, new_says}
use Rattle.change.proofs.Leaf.{node_inside, used_inside, leaf_range}
use Rattle.change.proofs.Targets.{InNew, Target, Placed, Path, OfLink}
use Rattle.change.proofs.Targets.{path_above, placed_split, stay_in, over_few, rise_placed}
use Rattle.change.proofs.Risen.{Has, Parts, parts, risen}
use Rattle.change.proofs.Run.{plan_off, plan_clean, pairs_stand, nodes_stand}

-- the nodes needed, as the tree counts them; and no fewer than the levels that split
pub needed_needs : (m path : List ℕ) → needed m path ≡ needs (view m) path
unfolding needed
needed_needs m [] = refl
needed_needs m (k ∷ above) = rw (needed_needs m above)

levels_needed : (m path : List ℕ) → split_levels m path ≤ needed m path
unfolding split_levels needed
levels_needed m [] = omega arith
levels_needed m (k ∷ above) = go (levels_needed m above) (full (view m k)) refl
  where
    go : split_levels m above ≤ needed m above → (b : Bool) → full (view m k) ≡ b → split_levels m (k ∷ above) ≤ needed m (k ∷ above)
    go h true t = rw t (omega arith)
    go h false t = rw t (omega arith)

-- the leaf of a key and the nodes above it
module _ {m : List ℕ} (w : WellFormed m) {key : ℕ} (y : Reached m key) where
  pub split_path : Path m (y.place.number ∷ above y.up)
  split_path = record { once = along_once w.whole y.around; range = along_range w.whole y.around }

  -- targets lie below the total; they are none of the log's words, nor of the new nodes'
  pub target_inside : (x : ℕ) → Target (y.place.number ∷ above y.up) x → Between used_at (total_in m) x
  target_inside x (inl h) = let f = form m w.form in (h.0, omega (arith, h.1, f.total, f.capacity))
  target_inside x (inr h) =
      (omega (arith, h.2.0), omega (arith, h.2.1, (used_inside w h.0 (split_path.range h.0 h.1).1).0))

  pub target_log : (x : ℕ) → Between log_at nodes_at x → ¬ Target (y.place.number ∷ above y.up) x
  target_log x b (inl h) = omega (arith, b.0, h.1)
  target_log x b (inr h) = omega (arith, b.1, h.2.0, (split_path.range h.0 h.1).0)

  pub target_new : (x : ℕ) → node_at (supply (used_of m) 0) ≤ x → ¬ Target (y.place.number ∷ above y.up) x
  target_new x b (inl h) = omega (arith, h.1)
  target_new x b (inr h) = omega (arith, h.2.1, (split_path.range h.0 h.1).1)

module _ {m : List ℕ} (w : WellFormed m) {key : ℕ} (y : Reached m key) (v : ℕ) (is_full : full (view m y.place.number) ≡ true) where
  abbrev k : ℕ
  k = y.place.number

  abbrev u : View
  u = view m k

  abbrev ks : List ℕ
  ks = above y.up

  abbrev r : Record
  r = (key, v)

  abbrev up : Record
  up = ((fifth u r).0, supply (used_of m) 0)

  abbrev plan : Plan
  plan = split m k ks r

  path_up : Path m (above y.up)
  path_up = path_above (split_path w y)

  named : Named (view m y.place.number)
  named = let i = leaf_range w y in whole_named w.whole k i.0 i.1

  of_link : OfLink y.place.number ((link_at y.place.number, supply (used_of m) 0) ∷ [])
  of_link = record { only = (refl, tt); apart = (absurd, tt) }

  over : length (upper_four (view m y.place.number) (key, v)) ≤ entries
  over = let i = leaf_range w y in over_few w k r lower i.1 i.0 (omega arith)

  -- where it stores
  pub split_placed : Placed m (y.place.number ∷ above y.up) 0 (split m y.place.number (above y.up) (key, v))
  unfolding split
  split_placed =
      placed_split (split_path w y) 0 u.link (upper_four u r) r (rise m ks up 1) over of_link
      (rise_placed w ks up 1 path_up)

  pub split_few : length (split m y.place.number (above y.up) (key, v)).pairs ≤ pairs_most
  split_few =
      let c : Counted m k ks r = counted m k ks r is_full in
      omega (arith, c.pairs, c.few, levels_needed m (k ∷ ks), needed_needs m (k ∷ ks), split_needs w y)

  module _ (room : needed m (y.place.number ∷ above y.up) ≤ capacity_of m - used_of m) where
    -- the new nodes lie below the total
    nodes_inside : Within (Between used_at (total_in m)) (node_pairs (split m y.place.number (above y.up) (key, v)))
    nodes_inside =
        let c : Counted m k ks r = counted m k ks r is_full in
        let b = node_inside w (used_of m + length plan.nodes) (omega (arith, c.nodes, (counts m w.counts).used)) in
        within_weaken (InNew m 0 (length plan.nodes)) (node_pairs plan) (λ x n. (omega (arith, n.0), omega (arith, n.1)))
        split_placed.nodes_in

    -- so its events go to words from used on, below the total
    pub split_goes : AllGo (Between used_at (total_in m)) (plan_events (split m y.place.number (above y.up) (key, v)))
    split_goes =
        let f = form m w.form in
        plan_goes (Between used_at (total_in m)) plan split_few nodes_inside
        (within_weaken (Target (k ∷ ks)) plan.pairs (target_inside w y) split_placed.pairs_in)
        (λ x b. (omega (arith, b.0), omega (arith, b.1, f.total)))

    abbrev m' : List ℕ
    m' = run m (plan_events plan)

    split_has : Has m (run m (plan_events (split m y.place.number (above y.up) (key, v)))) (y.place.number ∷ above y.up)
        (split m y.place.number (above y.up) (key, v))
    split_has = record {
      nodes = nodes_stand m plan split_few split_placed.nodes_apart
          (within_weaken (Between used_at (total_in m)) (node_pairs plan) (λ x h. omega (arith, long, h.1)) nodes_inside)
          (λ x a. let n = within_at New (node_pairs plan) x split_placed.nodes_in a in
          (within_off On plan.pairs x split_placed.pairs_in (target_new w y x n.0), λ b. omega (arith, n.0, b.1)));
      pairs = pairs_stand m plan split_few split_placed.pairs_apart
          (within_weaken On plan.pairs (λ x t. omega (arith, long, (target_inside w y x t).1)) split_placed.pairs_in)
          (within_off On plan.pairs commit_at split_placed.pairs_in (target_log w y commit_at (omega arith, omega arith)));
      still = λ x t o. plan_off m plan split_few x
          (within_off New (node_pairs plan) x split_placed.nodes_in (λ n. target_new w y x n.0 t)) o (λ b. target_log w y x b t);
    }
      where
        New : ℕ → Type 0
        New = InNew m 0 (length plan.nodes)

        On : ℕ → Type 0
        On = Target (k ∷ ks)

        long : total_in m ≤ length m
        long = (form m w.form).room

    -- a word of the header, or of a node off the path, that is below the log or above it
    split_off : (x : ℕ) → x < node_at (supply (used_of m) 0) → ¬ Target (y.place.number ∷ above y.up) x
        → ¬ Between log_at nodes_at x → at (run m (plan_events (split m y.place.number (above y.up) (key, v)))) x ≡ at m x
    split_off x h t l =
        plan_off m plan split_few x
        (within_off (InNew m 0 (length plan.nodes)) (node_pairs plan) x split_placed.nodes_in (λ n. omega (arith, n.0)))
        (within_off (Target (k ∷ ks)) plan.pairs x split_placed.pairs_in t) l

    -- what it leaves
    split_to : has key (keys (view m y.place.number).records) ≡ false
        → SplitTo m (run m (plan_events (split m y.place.number (above y.up) (key, v)))) y v
    unfolding split
    split_to absent =
        let all : length (view m k).named ≡ entries = eqb-true (length (view m k).named) entries is_full in
        let new : List Pair = new_node (supply (used_of m) 0) u.link (upper_four u r) in
        let stay : List Pair = staying_pairs k u r ((link_at k, supply (used_of m) 0) ∷ []) in
        let rest : Plan = rise m ks up 1 in
        let g : Parts m m' k ks new stay rest =
        parts new stay rest (split_path w y) (stay_in k u r of_link) (rise_placed w ks up 1 path_up).pairs_in split_has in
        record {
          size = length_run m (plan_events plan);
          header = λ i h. split_off i (omega arith) (header_other i h) (λ b. omega (arith, b.0));
          clean = plan_clean m plan split_few (omega (arith, (form m w.form).least));
          off = λ j p q o. view_still m m' j (whole_named w.whole j p q) (λ x n.
              split_off x (omega (arith, n.1)) (node_other j p o x n) (λ b. omega (arith, n.0, b.1)));
          full = all;
          absent = absent;
          low = leaf_stays m m' k named r all (supply (used_of m) 0) g.kept;
          high = new_says m' (supply (used_of m) 0) u.link (upper_four u r) over g.made;
          risen = risen w ks up 1 path_up g.more;
        }
      where
        header_other : (i : ℕ) → i < used_at → ¬ Target (k ∷ ks) i
        header_other i h (inl t) = omega (arith, t.0)
        header_other i h (inr t) = omega (arith, t.2.0)

        node_other : (j : ℕ) → 1 ≤ j → occ j (k ∷ ks) ≡ 0 → (x : ℕ) → InNode j x → ¬ Target (k ∷ ks) x
        node_other j p o x n (inl t) = omega (arith, n.0, t.1)
        node_other j p o x n (inr t) =
            let e : t.0 ≡ j = omega (arith, n, t.2) in
            let c : 1 ≤ occ j (k ∷ ks) = subst (λ (z : ℕ). 1 ≤ occ z (k ∷ ks)) e t.1 in
            omega arith

    pub split_leaves : has key (keys (view m y.place.number).records) ≡ false
        → After m (run m (plan_events (split m y.place.number (above y.up) (key, v)))) key (some v)
    split_leaves absent = split_after w y (split_to absent) (rw (← needed_needs m (k ∷ ks)) room)
