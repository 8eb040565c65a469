-- From the words that a split leaves to what its nodes say: each level that split, the one that took the last key in, or the new root.
use Prim.Native.Nat.{ℕ, ◌+◌, ◌≤◌, ◌<◌}
use mathlib.Core.Path.{◌≡◌, refl}
use mathlib.Core.Logic.{inl, inr, ⊎_elim}
use mathlib.Core.List.{List, [], ◌∷◌, ◌++◌}
use mathlib.Core.Bool.{Bool, true, false}
use native.Mathlib.Omega.{arith}
use lib.ListN.{length}
use borrow.Author.Tests.{eqb-true, eqb-false}
use Rattle.words.specs.Pool.{used_at, root_at, height_at}
use Rattle.words.specs.Event.{at}
use Rattle.words.specs.Blocks.{Pair}
use Rattle.words.proofs.Blocks.{Off}
use Rattle.node.specs.Slot.{entries}
use Rattle.node.specs.View.{Record, View, view}
use Rattle.tree.specs.Header.{used_of, root_of}
use Rattle.tree.specs.WellFormed.{WellFormed}
use Rattle.tree.specs.Halves.{lower, fifth, upper_three, supply, used_with}
use Rattle.tree.proofs.Lists.{each_left, each_right}
use Rattle.tree.proofs.Fits.{Named}
use Rattle.tree.proofs.Form.{counts}
use Rattle.tree.proofs.Frame.{whole_named}
use Rattle.tree.proofs.SplitAfter.{Risen, risen_root, risen_room, risen_full}
use Rattle.change.specs.Steps.{full, new_node, staying_pairs}
use Rattle.change.specs.Plan.{Plan}
use Rattle.change.specs.Put.{rise}
use Rattle.change.proofs.Pairs.{Within, Stand, Stands, within_off, off_append}
use Rattle.change.proofs.Goes.{node_pairs}
use Rattle.change.proofs.Nodes.{InNode, Became, view_still, taken_pairs, taken_in, taken_says}
use Rattle.change.proofs.Halves.{inner_stays, new_says}
use Rattle.change.proofs.Targets.{Target, Path, path_above, path_head, target_here, target_above, target_other}
use Rattle.change.proofs.Targets.{stay_in, over_few, rise_placed}

-- m' has what the plan stores, and the other words of the path and of the header's counts are as in m
pub record Has (m m' path : List ℕ) (p : Plan) : Type 0 where
  pub nodes : Stands m' (node_pairs p)
  pub pairs : Stands m' p.pairs
  pub still : (x : ℕ) → Target path x → Off p.pairs x → at m' x ≡ at m x

-- what a level that splits, leaf or not, leaves: its new node, its own pairs, and the plan of those above it
pub record Parts (m m' : List ℕ) (k : ℕ) (above : List ℕ) (new stay : List Pair) (rest : Plan) : Type 0 where
  pub made : Stands m' new
  pub kept : Became m m' k stay
  pub more : Has m m' above rest

pub parts : {m m' : List ℕ} {k : ℕ} {above : List ℕ} (new stay : List Pair) (rest : Plan) → Path m (k ∷ above) → Within (InNode k) stay
    → Within (Target above) rest.pairs → Has m m' (k ∷ above) (record { nodes = new ∷ rest.nodes; pairs = stay ++ rest.pairs })
    → Parts m m' k above new stay rest
parts {m' = m'} {k = k} {above = above} new stay rest t s p h = record {
  made = each_left (Stand m') new (node_pairs rest) h.nodes;
  kept = record {
    stands = each_left (Stand m') stay rest.pairs h.pairs;
    still = λ x n o. h.still x (target_here t x n)
        (off_append x stay rest.pairs o (within_off (Target above) rest.pairs x p (target_other t x n)));
  };
  more = record {
    nodes = each_right (Stand m') new (node_pairs rest) h.nodes;
    pairs = each_right (Stand m') stay rest.pairs h.pairs;
    still = λ x a o. h.still x (target_above t x a)
        (off_append x stay rest.pairs (within_off (InNode k) stay x s (λ n. target_other t x n a)) o);
  };
}

module _ {m m' : List ℕ} (w : WellFormed m) where
  pub risen : (above : List ℕ) (up : Record) (i : ℕ) → Path m above → Has m m' above (rise m above up i) → Risen m m' above up i
  unfolding rise
  risen [] up i t h =
      risen_root (counts m w.counts).height.0 (new_says m' (supply (used_of m) i) (root_of m) (up ∷ []) (omega arith) h.nodes)
      h.pairs.0 h.pairs.1.0 h.pairs.1.1.0
  risen (k ∷ above) up i t h =
      go (risen above ((fifth (view m k) up).0, supply (used_of m) i) (i + 1) (path_above t)) (full (view m k)) refl
    where
      u : View
      u = view m k

      range : (1 ≤ k) × (k ≤ used_of m)
      range = path_head t

      named : Named (view m k)
      named = whole_named w.whole k range.0 range.1

      go : (Has m m' above (rise m above ((fifth (view m k) up).0, supply (used_of m) i) (i + 1))
          → Risen m m' above ((fifth (view m k) up).0, supply (used_of m) i) (i + 1))
          → (b : Bool) → full (view m k) ≡ b → Risen m m' (k ∷ above) up i
      go f true b =
          let all : length (view m k).named ≡ entries = eqb-true (length (view m k).named) entries b in
          let e : Record = fifth (view m k) up in
          let over : List Record = upper_three (view m k) up in
          let new : ℕ = supply (used_of m) i in
          let rest : Plan = rise m above (e.0, new) (i + 1) in
          let g = parts (new_node new e.1 over) (staying_pairs k (view m k) up []) rest t
          (stay_in k (view m k) up (record { only = tt; apart = tt }))
          (rise_placed w above (e.0, new) (i + 1) (path_above t)).pairs_in (rw b at h) in
          risen_full all (inner_stays m m' k named up all g.kept)
          (new_says m' new e.1 over (over_few w k up (lower + 1) range.1 range.0 (omega arith)) g.made) (f g.more)
      go f false b =
          let few : length (view m k).named < entries = omega (arith, eqb-false (length (view m k).named) entries b, named.few) in
          let g = rw b at h in
          let ps : List Pair = taken_pairs k u up in
          let last : List Pair = (used_at, used_with (used_of m) i) ∷ [] in
          let c : Became m m' k ps = record {
            stands = each_left (Stand m') ps last g.pairs;
            still = λ x n o. g.still x (target_here t x n) (off_append x ps last o (⊎_elim (omega (arith, n.0)) absurd));
          } in
          let other : (x : ℕ) → ¬ InNode k x → (used_at ≡ x → ⊥) → Off (ps ++ last) x =
          λ x n d. off_append x ps last (within_off (InNode k) ps x (taken_in k u up few) n) (⊎_elim d absurd) in
          let same : (x : ℕ) → Target above x → (used_at ≡ x → ⊥) → at m' x ≡ at m x = λ x a d.
          g.still x (target_above t x a) (other x (λ n. target_other t x n a) d) in
          risen_room (counts m w.counts).height.0 few (taken_says named up few c)
          (λ j o. let q = t.range j (omega arith) in view_still m m' j (whole_named w.whole j q.0 q.1) (λ x n.
          same x (inr (j, o, n)) (omega (arith, n.0))))
          g.pairs.1.1.1.0 (same root_at (inl (omega arith, omega arith)) (omega arith))
          (same height_at (inl (omega arith, omega arith)) (omega arith))
