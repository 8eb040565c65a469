-- The way down: what is known where it reached a leaf.
use Prim.Native.Nat.{ℕ, zero, suc, ◌+◌}
use mathlib.Core.Path.{◌≡◌, refl}
use mathlib.Core.List.{List, [], ◌∷◌}
use mathlib.Core.Bool.{Bool, true, false, not}
use native.Mathlib.Omega.{arith}
use lib.ListN.{length}
use Rattle.std.specs.Prelude.{if◌then◌else◌}
use Rattle.words.specs.Tests.{within}
use Rattle.node.specs.View.{view}
use Rattle.tree.specs.Header.{used_of, counts_agree}
use Rattle.tree.specs.Kids.{Kid, pick, root_kid, leaf_least, inner_least, fits}
use Rattle.tree.specs.Path.{Way, failed, leaf, parent, way, levels_above, way_to}

-- a failure is no leaf
pub failed_not : {A : Type 0} {node k : ℕ} {above : List ℕ} → failed node ≡ leaf k above → A
failed_not e = let z : ◌≡◌ {A = ℕ} 0 1 = cc in absurd (omega arith)

-- both tests of a node passed
pub record Passed (a b : Bool) (w v : Way) : Type 0 where
  pub first : a ≡ true
  pub second : b ≡ true
  pub rest : w ≡ v

pub passed : (a b : Bool) (x y : ℕ) (w : Way) {k : ℕ} {above : List ℕ}
    → (if not a then failed x else if not b then failed y else w) ≡ leaf k above → Passed a b w (leaf k above)
passed true true x y w e = record { first = refl; second = refl; rest = e }
passed true false x y w e = failed_not e
passed false b x y w e = failed_not e

-- as many nodes above as levels
pub way_length : (n : ℕ) (m : List ℕ) (key : ℕ) (c : Kid) (up : List ℕ) {k : ℕ} {above : List ℕ} → way n m key c up ≡ leaf k above
    → length above ≡ n + length up
unfolding way
way_length zero m key c up {k} {above} e =
    let p : Passed _ _ (leaf c.number up) (leaf k above) =
    passed (within 1 c.number (used_of m)) (fits leaf_least c (view m c.number)) (parent up) c.number (leaf c.number up) e in
    let q : above ≡ up = let r = p.rest in cc in
    rw q (omega arith)
way_length (suc n) m key c up {k} {above} e =
    let down : Way = way n m key (pick key c (view m c.number)) (c.number ∷ up) in
    let p : Passed _ _ down (leaf k above) =
    passed (within 1 c.number (used_of m)) (fits inner_least c (view m c.number)) (parent up) c.number down e in
    omega (arith, way_length n m key (pick key c (view m c.number)) (c.number ∷ up) p.rest)

-- the header agreed, and there is a node above for each level but the leaf's
pub way_to_counts : (m : List ℕ) (key : ℕ) {k : ℕ} {above : List ℕ} → way_to m key ≡ leaf k above → counts_agree m ≡ true
unfolding way_to
way_to_counts m key {k} {above} e = go (counts_agree m) refl
  where
    go : (b : Bool) → counts_agree m ≡ b → counts_agree m ≡ true
    go true t = t
    go false t = let f : failed 0 ≡ leaf k above = rw t at e in failed_not f

pub way_to_down : (m : List ℕ) (key : ℕ) {k : ℕ} {above : List ℕ} → way_to m key ≡ leaf k above
    → way (levels_above m) m key (root_kid m) [] ≡ leaf k above
unfolding way_to
way_to_down m key {k} {above} e = let t = way_to_counts m key e in rw t at e

pub way_to_length : (m : List ℕ) (key : ℕ) {k : ℕ} {above : List ℕ} → way_to m key ≡ leaf k above → length above ≡ levels_above m
way_to_length m key e = omega (arith, way_length (levels_above m) m key (root_kid m) [] (way_to_down m key e))
