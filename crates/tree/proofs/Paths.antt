-- The path to the leaf of a key, gathered a node a turn where the way down has found the leaf.
use Prim.Native.Nat.{ℕ, suc, ◌-◌, ◌≤◌, ◌<◌}
use mathlib.Core.Path.{◌≡◌, refl, sym, ◌∙◌, ap}
use mathlib.Core.List.{List, ◌∷◌}
use mathlib.Core.Bool.{true}
use native.Mathlib.Nat.{sub-zero, sub_self}
use native.Mathlib.Omega.{arith}
use lib.ListN.{length, set, take, drop, replicate, length-set}
use lib.Seq.{drop-cons, get_or-set_same, drop-set-lt}
use Rattle.std.specs.Prelude.{Option, is_some}
use Rattle.words.specs.Tests.{within}
use Rattle.node.specs.View.{View, view, keys, good, no_end}
use Rattle.node.specs.inner.Looked.{Inside, Looked, LookedGood}
use Rattle.node.specs.declared.cover.Look.{Look}
use Rattle.node.proofs.Every.{covered_more}
use Rattle.node.proofs.Views.{Good, good_parts, parts_good}
use Rattle.node.proofs.Ends.{seen_good}
use Rattle.tree.specs.Header.{used_of, root_of, form_agrees, counts_agree}
use Rattle.tree.specs.Kids.{Kid, kid, pick, leaf_least, inner_least, fits}
use Rattle.tree.specs.Path.{Way, leaf, parent, way, levels_above}
use Rattle.tree.specs.inner.Descended.{Reaches, Pathed, kid_after}
use Rattle.tree.proofs.Form.{counts}
use Rattle.tree.proofs.Path.{Passed, passed, way_to_counts, way_to_down}
use Rattle.tree.proofs.Kids.{picked}
use Rattle.tree.proofs.Ways.{inside}

-- the nodes above the level that has `left` levels below it, nearest first: the path has the node of each level at its number
abbrev above : List ℕ → ℕ → List ℕ → List ℕ
above m left path = take (levels_above m - left) (drop (suc left) path)

-- the nodes above the next level down, once this level's node is in the path
above_next : (m : List ℕ) (left node : ℕ) (path : List ℕ) → left ≤ levels_above m → left < length path → 1 ≤ left
    → above m (left - 1) (set path left node) ≡ node ∷ above m left path
above_next m left node path h l o =
    let less : levels_above m - (left - 1) ≡ suc (levels_above m - left) = omega arith in
    let same : suc (left - 1) ≡ left = omega arith in
    let long : left < length (set path left node) = rw (length-set path left node) l in
    rw (
      less,
      same,
      drop-cons (set path left node) left 0 long,
      get_or-set_same path left node 0 l,
      drop-set-lt (suc left) path left node (omega arith),
    )

-- a node that is good under a cover is so under a wider one, with no least
widened : {least lo hi : ℕ} {u : View} → Good least lo hi u → good 0 0 hi u ≡ true
widened {hi = hi} {u = u} g = parts_good (record {
  least_named = omega arith;
  most_named = g.most_named;
  names_low = g.names_low;
  names_differ = g.names_differ;
  keys_rise = g.keys_rise;
  keys_covered = covered_more _ hi 0 hi (keys u.records) (omega arith) (omega arith) g.keys_covered;
})

module _ (m : List ℕ) (key : ℕ) (r : Reaches m key) where
  pub header_ok : counts_agree m ≡ true
  header_ok = way_to_counts m key r.way_is

  -- the way to the leaf goes on from a node, with some levels left below it, and the path has the nodes above
  pub record On (node left : ℕ) (path : List ℕ) : Type 0 where
    pub most : left ≤ levels_above m
    pub low : left < 8
    pub eight : length path ≡ 8
    pub from : ℕ
    pub upto : ℕ
    pub rest : way left m key (kid node from upto) (above m left path) ≡ leaf r.node r.above

  pub at_root : On (root_of m) (levels_above m) (replicate 8 0)
  at_root = record {
    most = omega arith;
    low = omega (arith, (counts m header_ok).height.1);
    eight = refl;
    from = 0;
    upto = no_end;
    rest = rw (sub_self (levels_above m)) (way_to_down m key r.way_is);
  }

  -- an inner node on the way: it is in use and good, and the way goes on from the child that covers the key
  step : (n : ℕ) (c : Kid) (up : List ℕ) → way (suc n) m key c up ≡ leaf r.node r.above
      → Passed (within 1 c.number (used_of m)) (fits inner_least c (view m c.number))
      (way n m key (pick key c (view m c.number)) (c.number ∷ up)) (leaf r.node r.above)
  unfolding way
  step n c up e = passed (within 1 c.number (used_of m)) (fits inner_least c (view m c.number)) (parent up) c.number _ e

  module _ {node left : ℕ} {path : List ℕ} (o : On node left path) where
    pub leaf_last : left ≡ 0 → Pathed m key (set path 0 node)
    unfolding way
    leaf_last z =
        let u : Way = leaf node (above m 0 path) in
        let e : way 0 m key (kid node o.from o.upto) (above m 0 path) ≡ leaf r.node r.above = rw z at o.rest in
        let c = kid node o.from o.upto in
        let p : Passed _ _ u (leaf r.node r.above) =
        passed (within 1 node (used_of m)) (fits leaf_least c (view m node)) (parent (above m 0 path)) node u e in
        record {
          eight_is = length-set path 0 node ∙ o.eight;
          way_is = r.way_is ∙ sym p.rest
              ∙ rw (get_or-set_same path 0 node 0 (omega (arith, o.eight)), drop-set-lt 1 path 0 node (omega arith), sub-zero) refl;
        }

    module _ (some : 0 < left) where
      abbrev here : Kid
      here = kid node o.from o.upto

      on_way : Passed (within 1 node (used_of m)) (fits inner_least here (view m node))
          (way (left - 1) m key (pick key here (view m node)) (node ∷ above m left path)) (leaf r.node r.above)
      on_way =
          let pred : left ≡ suc (left - 1) = omega arith in
          let e : way (suc (left - 1)) m key here (above m left path) ≡ leaf r.node r.above =
          ap (λ (n : ℕ). way n m key here (above m left path)) (sym pred) ∙ o.rest in
          step (left - 1) here (above m left path) e

      pub good_here : Good inner_least o.from o.upto (view m node)
      good_here = good_parts on_way.second

      pub lies_inside : form_agrees m ≡ true → Inside m node
      lies_inside f = inside m f header_ok node on_way.first

      pub found_good : (seen : Option Look) → Looked 0 0 key (view m node) seen → is_some seen ≡ true
      found_good seen l = seen_good 0 0 key (view m node) seen l o.upto (widened good_here)

      module _ {seen : Look} (l : LookedGood 0 0 key (view m node) seen) where
        pub go_down : {k : ℕ} → ((lo hi : ℕ) → k ≡ (kid_after m (kid node lo hi) seen.after).number)
            → On k (left - 1) (set path left node)
        go_down {k} n =
            let next = above_next m left node path o.most (omega (arith, o.low, o.eight)) (omega arith) in
            let c = pick key here (view m node) in
            let is : kid k c.from c.upto ≡ c = rw (n o.from o.upto, picked m node l o.from o.upto) refl in
            record {
              most = omega (arith, o.most);
              low = omega (arith, o.low);
              eight = length-set path left node ∙ o.eight;
              from = c.from;
              upto = c.upto;
              rest = rw (next, is) on_way.rest;
            }
