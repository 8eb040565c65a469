-- The way down to a key's leaf in a well-formed pool: it never fails, and the levels that it leaves above are its list.
use Prim.Native.Nat.{ℕ, zero, suc, ◌≤◌, ◌<◌}
use mathlib.Core.Path.{◌≡◌, refl, ap}
use mathlib.Core.List.{List, [], ◌∷◌, ◌++◌}
use mathlib.Core.Bool.{Bool, true, false}
use native.Mathlib.Omega.{arith}
use lib.Dec.{ltb}
use borrow.Author.Tests.{ltb-true, ltb-false}
use Rattle.words.specs.Tests.{within}
use Rattle.node.specs.View.{Record, view, keys, no_end}
use Rattle.tree.specs.Header.{used_of, root_of}
use Rattle.tree.specs.Kids.{Kid, kid, pick_from, root_kid, fits, leaf_least, inner_least, below_root_least}
use Rattle.tree.specs.Path.{Way, leaf, way, levels_above, way_to}
use Rattle.tree.specs.Lists.{Each}
use Rattle.tree.specs.WellFormed.{Views, kids_of, AllFit, Whole, WellFormed}
use Rattle.tree.proofs.Lists.{each_left, each_right}
use Rattle.tree.proofs.Keys.{Rise, rise_more, rise_from, last_key, first_key}
use Rattle.tree.proofs.Fits.{fits_says, fits_fewer}
use Rattle.words.proofs.Tests.{within_of}
use Rattle.tree.proofs.Frame.{head_in}
use Rattle.tree.proofs.Hole.{Level, least, above, Holds, Around, top, under, hole, hole_of, lefts_of, rights_of, kids_hole}
use Rattle.tree.proofs.Hole.{around_nums}

-- the child that covers a key is in a hole
pub record Picked (key leftmost lo hi : ℕ) (rs : List Record) : Type 0 where
  pub left : List Record
  pub right : List Record
  pub parts : rs ≡ left ++ right
  pub is : pick_from key leftmost lo hi rs ≡ hole leftmost lo hi left right
  pub from : last_key lo left ≤ key
  pub upto : key < first_key hi right

pub picked : (key leftmost lo hi : ℕ) (rs : List Record) → Rise lo (keys rs) hi → lo ≤ key → key < hi → Picked key leftmost lo hi rs
unfolding pick_from
picked key leftmost lo hi [] r p q = record { left = []; right = []; parts = refl; is = refl; from = p; upto = q }
picked key leftmost lo hi (e ∷ rs) (rise_more p' q' r) p q =
    go (λ k. picked key e.1 e.0 hi rs (rise_from r) k q) (ltb key e.0) refl
  where
    go : (e.0 ≤ key → Picked key e.1 e.0 hi rs) → (b : Bool) → ltb key e.0 ≡ b → Picked key leftmost lo hi (e ∷ rs)
    go f true t = record { left = []; right = e ∷ rs; parts = refl; is = rw t; from = p; upto = ltb-true key e.0 t }
    go f false t =
        let x : Picked key e.1 e.0 hi rs = f (ltb-false key e.0 t) in
        record {
          left = e ∷ x.left;
          right = x.right;
          parts = ap (λ (l : List Record). e ∷ l) x.parts;
          is = rw t x.is;
          from = x.from;
          upto = x.upto;
        }

-- the way w goes to a leaf whose cover has the key, and the levels lie around that leaf
pub record Down (m : List ℕ) (key H : ℕ) (r : Kid) (w : Way) : Type 0 where
  pub place : Kid
  pub up : List Level
  pub around : Around (view m) H r 0 place up
  pub fit : fits leaf_least place (view m place.number) ≡ true
  pub from : place.from ≤ key
  pub upto : key < place.upto
  pub is : w ≡ leaf place.number (above up)

one_least : (ls : List Level) → inner_least ≤ least ls
one_least [] = omega arith
one_least (l ∷ ls) = omega arith

module _ (m : List ℕ) (key H root : ℕ) (w : Whole (view m) (used_of m) H root) where
  abbrev U : Views
  U = view m

  abbrev r : Kid
  r = kid root 0 no_end

  in_range : {h : ℕ} {c : Kid} {ls : List Level} → Around U H r h c ls → within 1 c.number (used_of m) ≡ true
  in_range {h} {c} {ls} x =
      let i = w.only c.number (omega (arith, around_nums c.number x, head_in U h c)) in
      within_of 1 c.number (used_of m) i.0 i.1

  -- a node with levels below it, and the child of the key
  step : {h : ℕ} {c : Kid} {ls : List Level} → Around U H r (suc h) c ls → AllFit U (least ls) (suc h) c
      → Picked key (U c.number).link c.from c.upto (U c.number).records
      → ((d : Kid) (l : Level) → Around U H r h d (l ∷ ls) → AllFit U below_root_least h d → d.from ≤ key → key < d.upto
      → Down m key H r (way h m key d (above (l ∷ ls))))
      → Down m key H r (way (suc h) m key c (above ls))
  unfolding way
  step {h} {c} {ls} x n k next =
      let l : Level = record { node = c; left = k.left; right = k.right } in
      let d : Kid = hole_of U l in
      let f : Kid → Type 0 = AllFit U below_root_least h in
      let ks : kids_of U c ≡ lefts_of U l ++ (d ∷ rights_of U l) =
      rw k.parts (kids_hole (U c.number).link c.from c.upto k.left k.right) in
      let e : Each f (lefts_of U l ++ (d ∷ rights_of U l)) = rw ks at n.1 in
      let e' : Each f (d ∷ rights_of U l) = each_right f (lefts_of U l) (d ∷ rights_of U l) e in
      let g : Holds U (least ls) h d l = record {
        here = refl;
        parts = k.parts;
        fit = n.0;
        lefts_fit = each_left f (lefts_of U l) (d ∷ rights_of U l) e;
        rights_fit = e'.1;
      } in
      let y = next d l (under g x) e'.0 k.from k.upto in
      let t = fits_fewer (least ls) c.from c.upto (U c.number) (one_least ls) n.0 in
      record {
        place = y.place;
        up = y.up;
        around = y.around;
        fit = y.fit;
        from = y.from;
        upto = y.upto;
        is = rw (in_range x, t, k.is) y.is;
      }

  pub down : (h : ℕ) (c : Kid) (ls : List Level) → Around U H r h c ls → AllFit U (least ls) h c → c.from ≤ key → key < c.upto
      → Down m key H r (way h m key c (above ls))
  unfolding way
  down zero c ls x n p q = record { place = c; up = ls; around = x; fit = n; from = p; upto = q; is = rw (in_range x, n) }
  down (suc h) c ls x n p q =
      let u = U c.number in
      let rise = (fits_says (least ls) c.from c.upto u n.0).rises in
      step x n (picked key u.link c.from c.upto u.records rise p q) (λ d l. down h d (l ∷ ls))

-- the leaf of a key in a pool
abbrev pub Reached : List ℕ → ℕ → Type 0
Reached m key = Down m key (levels_above m) (root_kid m) (way_to m key)

pub reach : (m : List ℕ) (key : ℕ) → WellFormed m → key < no_end → Reached m key
unfolding way_to
reach m key w h =
    let n = levels_above m in
    rw w.counts (down m key n (root_of m) w.whole n (root_kid m) [] top w.whole.fit (omega arith) h)
