-- Slips on the way down and in the check, each at a small pool where the definition answers something else than the slip does.
use Prim.Native.Nat.{ℕ}
use mathlib.Core.Path.{◌≡◌, refl, ap}
use mathlib.Core.List.{List, [], ◌∷◌, ◌++◌}
use native.Mathlib.Omega.{arith}
use lib.ListN.{take, replicate}
use Rattle.node.specs.Lists.{has, all_below, different, rising, covered}
use Rattle.node.specs.Slot.{bytes, names}
use Rattle.node.specs.View.{view, sound, good}
use Rattle.tree.specs.Header.{counts_agree}
use Rattle.tree.specs.Kids.{pick_from}
use Rattle.tree.specs.Path.{Way, failed, leaf, way, way_to}
use Rattle.tree.specs.Check.{fault, going, each_child, node_walk, walk}
use Rattle.tree.specs.inner.Descended.{Pathed}

-- the words of a node: slot word, word 1, entries
abbrev node : ℕ → ℕ → List ℕ → List ℕ
node slot link entries = take 16 (slot ∷ link ∷ (entries ++ replicate 14 0))

-- a pool of capacity 3 with this used, root and height, and these nodes
abbrev pool : ℕ → ℕ → ℕ → List ℕ → List ℕ
pool used root height nodes = (1 ∷ 120 ∷ 8 ∷ 72 ∷ 3 ∷ used ∷ root ∷ height ∷ []) ++ replicate 64 0 ++ nodes

-- a leaf with one key; an inner node with one key, and its two children
abbrev lone_leaf : ℕ → ℕ → List ℕ
lone_leaf key link = node 0x0001 link (key ∷ 0 ∷ [])

abbrev fork : ℕ → ℕ → ℕ → List ℕ
fork left key right = node 0x0001 left (key ∷ right ∷ [])

-- the leaves 1 and 2 under root 3, split at 50
unfoldable pub two_leaves : List ℕ
two_leaves = pool 3 3 2 (lone_leaf 10 2 ++ lone_leaf 50 0 ++ fork 1 50 2)

-- one name that opens what the way down and the check compute with
unfoldable opened : ℕ
unfolding
    has all_below different rising covered bytes names view sound good counts_agree pick_from way way_to each_child node_walk walk
    two_leaves
opened = 0

-- the check does not look at the last leaf's link: here it is 5
pub end_link : walk (pool 1 1 1 (lone_leaf 10 5)) (0 ∷ 0 ∷ 0 ∷ []) ≡ fault 1 (1 ∷ 0 ∷ 0 ∷ [])
unfolding opened
end_link = refl

-- the check asks three entries of the root, or looks for the leaves one level too deep: this pool is sound
pub two_sound : walk two_leaves (0 ∷ 0 ∷ 0 ∷ [])
    ≡ going (record { marks = 1 ∷ 1 ∷ 1 ∷ []; last = 2; nodes = 3; records = 2 })
unfolding opened
two_sound = refl

-- the check marks a number after its children: the second child of node 1 is node 1, whose fault that is
pub marked_after : walk (pool 2 1 2 (fork 2 50 1 ++ lone_leaf 10 0)) (0 ∷ 0 ∷ 0 ∷ []) ≡ fault 1 (1 ∷ 1 ∷ 0 ∷ [])
unfolding opened
marked_after = refl

-- the way down blames the child for a number out of range
pub fault_parent : way_to (pool 3 3 2 (lone_leaf 10 2 ++ lone_leaf 50 0 ++ fork 1 50 9)) 60 ≡ failed 3
unfolding opened
fault_parent = refl

-- the way down lets a child have the next key too, or holds another number than the last key against the upper end: leaf 1 has 50
pub last_cover : way_to (pool 3 3 2 (lone_leaf 50 2 ++ lone_leaf 50 0 ++ fork 1 50 2)) 10 ≡ failed 1
unfolding opened
last_cover = refl

-- the way down takes the highest used number, here that of the root, for unused
pub used_bound : way_to two_leaves 60 ≡ leaf 2 (3 ∷ [])
unfolding opened
used_bound = refl

leaf_of : Way → ℕ
leaf_of (failed k) = 0
leaf_of (leaf k above) = k

-- the path has the leaf last
pub path_place : ¬ Pathed two_leaves 60 (0 ∷ 3 ∷ 0 ∷ 0 ∷ 0 ∷ 0 ∷ 0 ∷ 2 ∷ [])
unfolding opened leaf_of
path_place p = let h : leaf_of (leaf 2 (3 ∷ [])) ≡ leaf_of (leaf 0 (3 ∷ [])) = ap leaf_of p.way_is in omega arith
