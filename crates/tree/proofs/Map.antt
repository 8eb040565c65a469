-- The records of a tree about the leaf of a key: the key is in no other leaf.
use Prim.Native.Nat.{ℕ, zero, suc, ◌≤◌, ◌<◌}
use mathlib.Core.Path.{◌≡◌, refl, ◌∙◌, ap}
use mathlib.Core.Logic.{◌⊎◌, inl, inr}
use mathlib.Core.List.{List, [], ◌∷◌, ◌++◌, append-nil}
use mathlib.Core.Bool.{true, false}
use mathlib.Core.Option.{none, some}
use native.Mathlib.Omega.{arith}
use lib.ListN.{get_or}
use Rattle.node.specs.Lists.{has}
use Rattle.node.specs.View.{Record, view, keys, rank}
use Rattle.node.proofs.Views.{good_parts}
use Rattle.tree.specs.Kids.{Kid, kids_from, leaf_least, below_root_least}
use Rattle.tree.specs.Lists.{gather, Each}
use Rattle.tree.specs.WellFormed.{Views, kids_of, AllFit, leaves}
use Rattle.tree.specs.Map.{find, records_in, records_of, map_of}
use Rattle.tree.proofs.Lists.{gather_append}
use Rattle.tree.proofs.Keys.{Rise, rise_more, rise_from, rise_cut, last_key, first_key, last_over, first_under}
use Rattle.tree.proofs.Fits.{fits_says}
use Rattle.tree.proofs.Find.{find_skip, find_middle, rise_miss, find_absent, find_present}
use Rattle.tree.proofs.Hole.{Level, least, lefts, rights, lefts_of, rights_of, Around, top, under, leaves_left}
use Rattle.tree.proofs.Hole.{leaves_right, around_leaves}
use Rattle.tree.proofs.Way.{Reached}

-- a child does not cover q
abbrev Outside : ℕ → Kid → Type 0
Outside q c = (q < c.from) ⊎ (c.upto ≤ q)

-- the children of a node keep within its cover
kids_outside : (q leftmost : ℕ) {lo hi : ℕ} (rs : List Record) → Rise lo (keys rs) hi → (q < lo) ⊎ (hi ≤ q)
    → Each (Outside q) (kids_from leftmost lo hi rs)
kids_outside q leftmost [] r o = (o, tt)
kids_outside q leftmost (e ∷ rs) (rise_more p p' r) (inl o) = (inl o, kids_outside q e.1 rs (rise_from r) (inl (omega arith)))
kids_outside q leftmost (e ∷ rs) (rise_more p p' r) (inr o) = (inr (omega arith), kids_outside q e.1 rs (rise_from r) (inr o))

-- those left and right of a hole that covers q do not
lefts_outside : (q leftmost : ℕ) {lo hi : ℕ} (a b : List Record) → Rise lo (keys (a ++ b)) hi → last_key lo a ≤ q
    → Each (Outside q) (lefts leftmost lo a)
lefts_outside q leftmost [] b r p = tt
lefts_outside q leftmost (e ∷ a) b (rise_more l l' r) p =
    (inr (omega (arith, last_over a b (rise_from r))), lefts_outside q e.1 a b (rise_from r) p)

rights_outside : (q : ℕ) {lo hi : ℕ} (a b : List Record) → Rise lo (keys (a ++ b)) hi → q < first_key hi b
    → Each (Outside q) (rights hi b)
rights_outside q a [] r p = tt
rights_outside q {lo} {hi} a (e ∷ b) r p = kids_outside q e.1 b (rise_from (rise_cut a e b r).right) (inl p)

module _ (U : Views) (q : ℕ) where
  miss_all : (h : ℕ) → ((c : Kid) → AllFit U below_root_least h c → Outside q c → find q (records_in U (leaves U h c)) ≡ none)
      → (cs : List Kid) → Each (AllFit U below_root_least h) cs → Each (Outside q) cs
      → find q (records_in U (gather (leaves U h) cs)) ≡ none
  unfolding find
  miss_all h f [] w o = refl
  miss_all h f (c ∷ cs) w o =
      rw gather_append (find_skip q (records_in U (leaves U h c)) (records_in U (gather (leaves U h) cs)) (f c w.0 o.0)
      ∙ miss_all h f cs w.1 o.1)

  -- a key outside its cover is not in a tree
  pub fit_miss : (least h : ℕ) (c : Kid) → AllFit U least h c → Outside q c → find q (records_in U (leaves U h c)) ≡ none
  fit_miss least zero c w o =
      rw append-nil (rise_miss q (U c.number).records (fits_says leaf_least c.from c.upto (U c.number) w).rises o)
  fit_miss least (suc h) c w o =
      let u = U c.number in
      miss_all h (fit_miss below_root_least h) (kids_of U c) w.1
      (kids_outside q u.link u.records (fits_says least c.from c.upto u w.0).rises o)

  -- nor is a key of the hole left or right of it
  pub around_miss : {H : ℕ} {r : Kid} {h : ℕ} {c : Kid} {ls : List Level} → Around U H r h c ls → c.from ≤ q → q < c.upto
      → (find q (records_in U (leaves_left U h ls)) ≡ none) × (find q (records_in U (leaves_right U h ls)) ≡ none)
  unfolding find
  around_miss top p p' = (refl, refl)
  around_miss {h = h} (under {l = l} {ls = ls} x y) p p' =
      let n = l.node in
      let f = fits_says (least ls) n.from n.upto (U n.number) x.fit in
      let s : Rise n.from (keys (l.left ++ l.right)) n.upto = rw x.parts at f.rises in
      let p₁ : last_key n.from l.left ≤ q = rw x.here at p in
      let p₂ : q < first_key n.upto l.right = rw x.here at p' in
      let o₁ : n.from ≤ last_key n.from l.left = last_over l.left l.right s in
      let o₂ : first_key n.upto l.right ≤ n.upto = first_under l.left l.right s in
      let lefts_hold : List Record = records_in U (gather (leaves U h) (lefts_of U l)) in
      let rights_hold : List Record = records_in U (gather (leaves U h) (rights_of U l)) in
      let up = around_miss y (omega arith) (omega arith) in
      let a = miss_all h (fit_miss below_root_least h) (lefts_of U l) x.lefts_fit
      (lefts_outside q (U n.number).link l.left l.right s p₁) in
      let b = miss_all h (fit_miss below_root_least h) (rights_of U l) x.rights_fit (rights_outside q l.left l.right s p₂) in (
        rw gather_append (find_skip q (records_in U (leaves_left U (suc h) ls)) lefts_hold up.0 ∙ a),
        rw gather_append (find_skip q rights_hold (records_in U (leaves_right U (suc h) ls)) b ∙ up.1),
      )

-- the records of a pool left of the leaf that is reached, and right of it
module _ {m : List ℕ} {key : ℕ} (y : Reached m key) where
  abbrev pub records_left : List Record
  records_left = records_in (view m) (leaves_left (view m) 0 y.up)

  abbrev pub records_right : List Record
  records_right = records_in (view m) (leaves_right (view m) 0 y.up)

  pub records_at : records_of m ≡ records_left ++ ((view m y.place.number).records ++ records_right)
  records_at = rw (around_leaves y.around, gather_append)

  pub miss_left : find key records_left ≡ none
  miss_left = (around_miss (view m) key y.around y.from y.upto).0

  pub miss_right : find key records_right ≡ none
  miss_right = (around_miss (view m) key y.around y.from y.upto).1

  -- what the leaf holds under the key is what the pool holds
  pub map_at : map_of m key ≡ find key (view m y.place.number).records
  map_at =
      ap (find key) records_at
      ∙ find_middle key records_left (view m y.place.number).records records_right miss_left miss_right

  -- a key that is in the leaf is held with the value at its rank, one that is not is not held
  pub map_present : has key (keys (view m y.place.number).records) ≡ true
      → map_of m key ≡ some (get_or (view m y.place.number).records (rank (view m y.place.number) key) (0, 0)).1
  map_present h =
      map_at ∙ find_present key (view m y.place.number).records (good_parts y.fit).keys_rise h

  pub map_absent : has key (keys (view m y.place.number).records) ≡ false → map_of m key ≡ none
  map_absent h = map_at ∙ find_absent key (view m y.place.number).records h
