-- The way up from a hole in a tree: the levels above it, nearest first, and what lies around it.
use Prim.Native.Nat.{ℕ, suc, ◌+◌, ◌≤◌}
use mathlib.Core.Path.{◌≡◌, refl, sym, ◌∙◌, ap}
use mathlib.Core.List.{List, [], ◌∷◌, ◌++◌, append_assoc, append-nil}
use mathlib.Core.Bool.{true}
use native.Mathlib.Omega.{arith}
use lib.ListN.{length}
use Rattle.node.specs.View.{Record}
use Rattle.tree.specs.Kids.{Kid, kid, kids_from, fits, inner_least, below_root_least}
use Rattle.tree.specs.Lists.{gather, Each, occ}
use Rattle.tree.specs.WellFormed.{Views, kids_of, AllFit, nums, leaves}
use Rattle.tree.proofs.Lists.{gather_append, each_append, one_self, occ_append}
use Rattle.tree.proofs.Keys.{last_key, first_key}
use Rattle.tree.proofs.Frame.{On, SameAll, same_all, leaves_in_all}

-- the children left of the hole between the records a and b, the one in it, and those right of it
abbrev pub lefts : ℕ → ℕ → List Record → List Kid
lefts leftmost lo [] = []
lefts leftmost lo (r ∷ a) = kid leftmost lo r.0 ∷ lefts r.1 r.0 a

abbrev pub last_child : ℕ → List Record → ℕ
last_child leftmost [] = leftmost
last_child leftmost (r ∷ a) = last_child r.1 a

abbrev pub rights : ℕ → List Record → List Kid
rights hi [] = []
rights hi (r ∷ b) = kids_from r.1 r.0 hi b

abbrev pub hole : ℕ → ℕ → ℕ → List Record → List Record → Kid
hole leftmost lo hi a b = kid (last_child leftmost a) (last_key lo a) (first_key hi b)

pub kids_hole : (leftmost lo hi : ℕ) (a b : List Record)
    → kids_from leftmost lo hi (a ++ b) ≡ lefts leftmost lo a ++ (hole leftmost lo hi a b ∷ rights hi b)
kids_hole leftmost lo hi [] [] = refl
kids_hole leftmost lo hi [] (r ∷ b) = refl
kids_hole leftmost lo hi (r ∷ a) b = ap (λ (cs : List Kid). kid leftmost lo r.0 ∷ cs) (kids_hole r.1 r.0 hi a b)

-- a level: a node, and its records left and right of the hole
pub record Level : Type 0 where
  pub node : Kid
  pub left : List Record
  pub right : List Record

-- the least entries of a node, by what is above it
abbrev pub least : List Level → ℕ
least [] = inner_least
least (l ∷ ls) = below_root_least

abbrev pub above : List Level → List ℕ
above [] = []
above (l ∷ ls) = l.node.number ∷ above ls

module _ (U : Views) where
  abbrev pub lefts_of : Level → List Kid
  lefts_of l = lefts (U l.node.number).link l.node.from l.left

  abbrev pub rights_of : Level → List Kid
  rights_of l = rights l.node.upto l.right

  abbrev pub hole_of : Level → Kid
  hole_of l = hole (U l.node.number).link l.node.from l.node.upto l.left l.right

  -- the node fits, c is the child in its hole, and the other children's trees fit, h levels above the leaves
  pub record Holds (q h : ℕ) (c : Kid) (l : Level) : Type 0 where
    pub here : c ≡ hole_of l
    pub parts : (U l.node.number).records ≡ l.left ++ l.right
    pub fit : fits q l.node (U l.node.number) ≡ true
    pub lefts_fit : Each (AllFit U below_root_least h) (lefts_of l)
    pub rights_fit : Each (AllFit U below_root_least h) (rights_of l)

  -- the levels lie around c, h levels above the leaves, up to the root r, H levels above them
  pub data Around (H : ℕ) (r : Kid) : ℕ → Kid → List Level → Type 0 where
    top : Around H r H r []
    under : {h : ℕ} {c : Kid} {l : Level} {ls : List Level} → Holds (least ls) h c l → Around H r (suc h) l.node ls
        → Around H r h c (l ∷ ls)

  -- the numbers outside the hole that are not on the way up, and the leaves left and right of it
  abbrev pub beside : ℕ → List Level → List ℕ
  beside h [] = []
  beside h (l ∷ ls) = gather (nums U h) (lefts_of l) ++ (gather (nums U h) (rights_of l) ++ beside (suc h) ls)

  abbrev pub leaves_left : ℕ → List Level → List ℕ
  leaves_left h [] = []
  leaves_left h (l ∷ ls) = leaves_left (suc h) ls ++ gather (leaves U h) (lefts_of l)

  abbrev pub leaves_right : ℕ → List Level → List ℕ
  leaves_right h [] = []
  leaves_right h (l ∷ ls) = gather (leaves U h) (rights_of l) ++ leaves_right (suc h) ls

  pub occ_beside : (j h : ℕ) (l : Level) (ls : List Level)
      → occ j (beside h (l ∷ ls))
      ≡ occ j (gather (nums U h) (lefts_of l)) + (occ j (gather (nums U h) (rights_of l)) + occ j (beside (suc h) ls))
  occ_beside j h l ls = rw (occ_append, occ_append)

  -- the leaves left and right are among the numbers beside
  pub left_in : (j h : ℕ) (ls : List Level) → occ j (leaves_left h ls) ≤ occ j (beside h ls)
  left_in j h [] = omega arith
  left_in j h (l ∷ ls) =
      omega (
        arith,
        left_in j (suc h) ls,
        leaves_in_all U j h (lefts_of l),
        occ_append j (leaves_left (suc h) ls) (gather (leaves U h) (lefts_of l)),
        occ_beside j h l ls,
      )

  pub right_in : (j h : ℕ) (ls : List Level) → occ j (leaves_right h ls) ≤ occ j (beside h ls)
  right_in j h [] = omega arith
  right_in j h (l ∷ ls) =
      omega (
        arith,
        right_in j (suc h) ls,
        leaves_in_all U j h (rights_of l),
        occ_append j (gather (leaves U h) (rights_of l)) (leaves_right (suc h) ls),
        occ_beside j h l ls,
      )

module _ {U : Views} where
  holds_kids : {q h : ℕ} {c : Kid} {l : Level} → Holds U q h c l → kids_of U l.node ≡ lefts_of U l ++ (c ∷ rights_of U l)
  holds_kids x = rw (x.parts, kids_hole, ← x.here)

  module _ {H : ℕ} {r : Kid} where
    pub around_nums : {h : ℕ} {c : Kid} {ls : List Level} (j : ℕ) → Around U H r h c ls
        → occ j (nums U H r) ≡ occ j (nums U h c) + (occ j (above ls) + occ j (beside U h ls))
    around_nums j top = omega arith
    around_nums {h} {c} j (under {l = l} {ls = ls} x y) =
        let s : occ j (gather (nums U h) (kids_of U l.node))
        ≡ occ j (gather (nums U h) (lefts_of U l)) + (occ j (nums U h c) + occ j (gather (nums U h) (rights_of U l))) =
        rw (holds_kids x, gather_append, occ_append, occ_append) in
        omega (arith, around_nums j y, occ_beside U j h l ls)

    pub around_leaves : {h : ℕ} {c : Kid} {ls : List Level} → Around U H r h c ls
        → leaves U H r ≡ leaves_left U h ls ++ (leaves U h c ++ leaves_right U h ls)
    around_leaves top = sym (append-nil (leaves U H r))
    around_leaves {h} {c} (under {l = l} {ls = ls} x y) =
        let s : leaves U (suc h) l.node
        ≡ gather (leaves U h) (lefts_of U l) ++ (leaves U h c ++ gather (leaves U h) (rights_of U l)) =
        rw (holds_kids x, gather_append) in
        around_leaves y ∙ rw s (simp append_assoc)

    pub around_fit : {h : ℕ} {c : Kid} {ls : List Level} → Around U H r h c ls → AllFit U (least ls) h c → AllFit U inner_least H r
    around_fit top w = w
    around_fit {h} {c} (under {l = l} {ls = ls} x y) w =
        let f : Kid → Type 0 = AllFit U below_root_least h in
        around_fit y (x.fit, rw (holds_kids x) (each_append f (lefts_of U l) (c ∷ rights_of U l) x.lefts_fit (w, x.rights_fit)))

    pub around_height : {h : ℕ} {c : Kid} {ls : List Level} → Around U H r h c ls → H ≡ h + length (above ls)
    around_height top = omega arith
    around_height (under x y) = omega (arith, around_height y)

-- what lies around is the same where the views of the nodes above and beside are
module _ (U U' : Views) where
  pub record SameAround (h : ℕ) (ls : List Level) : Type 0 where
    pub beside_is : beside U' h ls ≡ beside U h ls
    pub left_is : leaves_left U' h ls ≡ leaves_left U h ls
    pub right_is : leaves_right U' h ls ≡ leaves_right U h ls

  pub on_lefts : (h : ℕ) (l : Level) (ls : List Level) → On U U' (beside U h (l ∷ ls)) → SameAll U U' h (lefts_of U l)
  on_lefts h l ls o = same_all U U' h (lefts_of U l) (λ k p. o k (omega (arith, occ_beside U k h l ls)))

  pub on_rights : (h : ℕ) (l : Level) (ls : List Level) → On U U' (beside U h (l ∷ ls)) → SameAll U U' h (rights_of U l)
  on_rights h l ls o = same_all U U' h (rights_of U l) (λ k p. o k (omega (arith, occ_beside U k h l ls)))

  pub on_rest : (h : ℕ) (l : Level) (ls : List Level) → On U U' (beside U h (l ∷ ls)) → On U U' (beside U (suc h) ls)
  on_rest h l ls o k p = o k (omega (arith, occ_beside U k h l ls))

  pub same_around : (h : ℕ) (ls : List Level) → On U U' (above ls) → On U U' (beside U h ls) → SameAround h ls
  same_around h [] o o' = record { beside_is = refl; left_is = refl; right_is = refl }
  same_around h (l ∷ ls) o o' =
      let e : U' l.node.number ≡ U l.node.number = o l.node.number (omega (arith, one_self l.node.number)) in
      let a : SameAll U U' h (lefts_of U l) = on_lefts h l ls o' in
      let b : SameAll U U' h (rights_of U l) = on_rights h l ls o' in
      let c : SameAround (suc h) ls = same_around (suc h) ls (λ k p. o k (omega arith)) (on_rest h l ls o') in
      record {
        beside_is = rw (e, a.nums_are, b.nums_are, c.beside_is);
        left_is = rw (e, a.leaves_are, c.left_is);
        right_is = rw (b.leaves_are, c.right_is);
      }

  pub around_same : {H : ℕ} {r : Kid} {h : ℕ} {c : Kid} {ls : List Level} → On U U' (above ls) → On U U' (beside U h ls)
      → Around U H r h c ls → Around U' H r h c ls
  around_same o o' top = top
  around_same {h = h} {c = c} o o' (under {l = l} {ls = ls} x y) =
      let e : U' l.node.number ≡ U l.node.number = o l.node.number (omega (arith, one_self l.node.number)) in
      let f : Holds U' (least ls) h c l = record {
        here = rw e x.here;
        parts = rw e x.parts;
        fit = rw e x.fit;
        lefts_fit = rw e ((on_lefts h l ls o').fit x.lefts_fit);
        rights_fit = (on_rights h l ls o').fit x.rights_fit;
      } in
      under f (around_same (λ k p. o k (omega arith)) (on_rest h l ls o') y)
