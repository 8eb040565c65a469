-- The way down to a leaf met each of its nodes.
use Prim.Native.Nat.{ℕ, zero, suc, ◌<◌}
use mathlib.Core.Path.{◌≡◌}
use mathlib.Core.List.{List, [], ◌∷◌}
use mathlib.Core.Bool.{true}
use Rattle.words.specs.Tests.{within}
use Rattle.words.specs.Event.{at}
use Rattle.node.specs.View.{view, no_end}
use Rattle.tree.specs.Header.{used_of, form_agrees, counts_agree}
use Rattle.tree.specs.Kids.{Kid, pick, root_kid, leaf_least, inner_least, fits}
use Rattle.tree.specs.Path.{Way, leaf, parent, way, levels_above, way_to}
use Rattle.tree.specs.Lists.{Each}
use Rattle.tree.proofs.Path.{Passed, passed, way_to_counts, way_to_down}
use Rattle.tree.proofs.Ways.{inside}
use Rattle.split.specs.inner.Opened.{Met}
use Rattle.split.proofs.Eights.{met_good}

module _ (m : List ℕ) (words : (i : ℕ) → at m i < no_end) (agree : form_agrees m ≡ true) (bounded : counts_agree m ≡ true) where
  met_in : (least : ℕ) (c : Kid) → within 1 c.number (used_of m) ≡ true → fits least c (view m c.number) ≡ true → Met m c.number
  met_in least c t g = met_good m c.number least c.from c.upto words (inside m agree bounded c.number t) g

  way_met : (n key : ℕ) (c : Kid) (up : List ℕ) {k : ℕ} {above : List ℕ} → Each (Met m) up → way n m key c up ≡ leaf k above
      → Each (Met m) (k ∷ above)
  unfolding way
  way_met zero key c up {k} {above} h e =
      let p : Passed _ _ (leaf c.number up) (leaf k above) =
      passed (within 1 c.number (used_of m)) (fits leaf_least c (view m c.number)) (parent up) c.number (leaf c.number up) e in
      let q : k ≡ c.number = let r = p.rest in cc in
      let r : above ≡ up = let r = p.rest in cc in
      rw (q, r) (met_in leaf_least c p.first p.second, h)
  way_met (suc n) key c up {k} {above} h e =
      let down : Way = way n m key (pick key c (view m c.number)) (c.number ∷ up) in
      let p : Passed _ _ down (leaf k above) =
      passed (within 1 c.number (used_of m)) (fits inner_least c (view m c.number)) (parent up) c.number down e in
      way_met n key (pick key c (view m c.number)) (c.number ∷ up) (met_in inner_least c p.first p.second, h) p.rest

-- the leaf and the nodes above it, in a memory of 64-bit words
pub way_to_met : (m : List ℕ) (key : ℕ) {k : ℕ} {above : List ℕ} → ((i : ℕ) → at m i < no_end) → form_agrees m ≡ true
    → way_to m key ≡ leaf k above → Each (Met m) (k ∷ above)
way_to_met m key words agree e =
    way_met m words agree (way_to_counts m key e) (levels_above m) key (root_kid m) [] tt (way_to_down m key e)
