-- The numbers on the way to a leaf of a whole tree, and the links around that leaf.
use Prim.Native.Nat.{ℕ, ◌+◌, ◌≤◌}
use mathlib.Core.Path.{◌≡◌, ◌∙◌}
use mathlib.Core.List.{List, ◌∷◌, ◌++◌}
use native.Mathlib.Omega.{arith}
use native.Mathlib.Decide.{dec_le}
use Rattle.node.specs.View.{no_end}
use Rattle.tree.specs.Kids.{Kid, kid}
use Rattle.tree.specs.Lists.{occ}
use Rattle.tree.specs.WellFormed.{Views, nums, leaves, Linked, Whole}
use Rattle.tree.proofs.Frame.{On, linked_left, linked_right, linked_same, linked_append}
use Rattle.tree.proofs.Hole.{Level, above, Around, beside, leaves_left, leaves_right, around_nums, around_leaves, left_in}
use Rattle.tree.proofs.Hole.{right_in}

-- the leaf and the nodes above it
abbrev pub along : Kid → List Level → List ℕ
along c ls = c.number ∷ above ls

module _ {U : Views} {used H root : ℕ} {c : Kid} {ls : List Level} (w : Whole U used H root)
    (x : Around U H (kid root 0 no_end) 0 c ls) where
  pub along_nums : (j : ℕ) → occ j (nums U H (kid root 0 no_end)) ≡ occ j (along c ls) + occ j (beside U 0 ls)
  along_nums j = around_nums j x ∙ omega arith

  pub along_range : (j : ℕ) → 1 ≤ occ j (along c ls) → (1 ≤ j) × (j ≤ used)
  along_range j o = w.only j (omega (arith, along_nums j))

  pub along_once : (j : ℕ) → occ j (along c ls) ≤ 1
  along_once j = go (dec_le 1 (occ j (along c ls)))
    where
      go : Dec (1 ≤ occ j (along c ls)) → occ j (along c ls) ≤ 1
      go (yes p) = let i = along_range j p in omega (arith, w.once j i.0 i.1, along_nums j)
      go (no p) = omega arith

  -- a number beside is in range and not along
  beside_range : (j : ℕ) → 1 ≤ occ j (beside U 0 ls) → (1 ≤ j) × (j ≤ used) × (occ j (along c ls) ≡ 0)
  beside_range j o =
      let i = w.only j (omega (arith, along_nums j)) in
      (i.0, i.1, omega (arith, w.once j i.0 i.1, along_nums j))

  pub on_beside : {U' : Views} → ((j : ℕ) → 1 ≤ j → j ≤ used → occ j (along c ls) ≡ 0 → U' j ≡ U j) → On U U' (beside U 0 ls)
  on_beside f j o = let i = beside_range j o in f j i.0 i.1 i.2

  along_leaves : leaves U H (kid root 0 no_end) ≡ leaves_left U 0 ls ++ (c.number ∷ leaves_right U 0 ls)
  along_leaves = around_leaves x

  -- where the views beside are the same, so are the links left and right of what now stands for the leaf
  module _ (U' : Views) (o : On U U' (beside U 0 ls)) where
    pub on_left : On U U' (leaves_left U 0 ls)
    on_left j h = o j (omega (arith, left_in U j 0 ls))

    pub on_right : On U U' (leaves_right U 0 ls)
    on_right j h = o j (omega (arith, right_in U j 0 ls))

    pub along_linked : (ks : List ℕ) → Linked U' (c.number ∷ ks) (U c.number).link
        → Linked U' (leaves_left U 0 ls ++ (c.number ∷ (ks ++ leaves_right U 0 ls))) 0
    along_linked ks l =
        let left : List ℕ = leaves_left U 0 ls in
        let right : List ℕ = leaves_right U 0 ls in
        let k : Linked U (left ++ (c.number ∷ right)) 0 = rw along_leaves at w.linked in
        let b : Linked U (c.number ∷ right) 0 = linked_right U left (c.number ∷ right) 0 k in
        linked_append U' left (c.number ∷ (ks ++ right)) 0
        (linked_same U U' left c.number on_left (linked_left U left (c.number ∷ right) 0 k))
        (linked_append U' (c.number ∷ ks) right 0 (rw b.0 at l) (linked_same U U' right 0 on_right b.1))
