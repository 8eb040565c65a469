-- How many nodes a tree has: nine levels do not fit into 40,000 nodes, nor do eight with a full root.
use Prim.Native.Nat.{ℕ, zero, suc, ◌+◌, ◌*◌, ◌≤◌}
use mathlib.Core.Path.{◌≡◌, refl, ◌∙◌, ap}
use mathlib.Core.Logic.{◌⊎◌, inl, inr, ⊎_elim}
use mathlib.Core.List.{List, [], ◌∷◌}
use mathlib.Core.Bool.{Bool, true, false}
use native.Mathlib.Omega.{arith}
use native.Mathlib.Decide.{dec_le}
use native.Mathlib.Nat.{mul-le-mul_right}
use lib.Dec.{eqb}
use lib.ListN.{length, length-append}
use borrow.Author.Tests.{eqb-true}
use Rattle.std.specs.Prelude.{if◌then◌else◌}
use Rattle.words.specs.Pool.{height_most}
use Rattle.node.specs.Slot.{entries}
use Rattle.node.specs.View.{Record, view, no_end}
use Rattle.tree.specs.Header.{used_of, root_of, height_of}
use Rattle.tree.specs.Kids.{Kid, kid, kids_from, inner_least, below_root_least}
use Rattle.tree.specs.Lists.{gather, Each}
use Rattle.tree.specs.WellFormed.{Views, kids_of, AllFit, nums, Whole, WellFormed}
use Rattle.tree.proofs.Fits.{fits_says, Sized, view_sized}
use Rattle.tree.proofs.Form.{form, Counts, counts}
use Rattle.tree.proofs.Occurs.{whole_size}
use Rattle.tree.proofs.Hole.{Level, above, Around, top, under, around_height}
use Rattle.tree.proofs.Way.{Reached}

-- the fewest nodes in the tree below a node that is not the root, with itself
abbrev pub fewest : ℕ → ℕ
fewest zero = 1
fewest (suc h) = 1 + 4 * fewest h

fewest_eight : (h : ℕ) → 7 ≤ h → 21845 ≤ fewest h
fewest_eight zero p = absurd (omega arith)
fewest_eight (suc h) p = go (fewest_eight h) (dec_le 7 h)
  where
    go : (7 ≤ h → 21845 ≤ fewest h) → Dec (7 ≤ h) → 21845 ≤ fewest (suc h)
    go f (yes q) = omega (arith, f q)
    go f (no q) = let e : h ≡ 6 = omega arith in rw e (omega arith)

length_kids : (leftmost lo hi : ℕ) (rs : List Record) → length (kids_from leftmost lo hi rs) ≡ suc (length rs)
length_kids leftmost lo hi [] = refl
length_kids leftmost lo hi (r ∷ rs) = ap suc (length_kids r.1 r.0 hi rs)

module _ (U : Views) (sized : Sized U) where
  kids_length : (c : Kid) → length (kids_of U c) ≡ suc (length (U c.number).named)
  kids_length c =
      length_kids (U c.number).link c.from c.upto (U c.number).records ∙ omega (arith, sized c.number)

  all_many : (h : ℕ) → ((c : Kid) → AllFit U below_root_least h c → fewest h ≤ length (nums U h c))
      → (cs : List Kid) → Each (AllFit U below_root_least h) cs → length cs * fewest h ≤ length (gather (nums U h) cs)
  all_many h f [] w = omega arith
  all_many h f (c ∷ cs) w = rw length-append (omega (arith, f c w.0, all_many h f cs w.1))

  fit_many : (h : ℕ) (c : Kid) → AllFit U below_root_least h c → fewest h ≤ length (nums U h c)
  fit_many zero c w = omega arith
  fit_many (suc h) c w =
      let n = fits_says below_root_least c.from c.upto (U c.number) w.0 in
      let b : 4 ≤ length (kids_of U c) = omega (arith, kids_length c, n.low) in
      omega (arith, all_many h (fit_many h) (kids_of U c) w.1, mul-le-mul_right (fewest h) b)

  -- a root with q entries
  root_many : (h q : ℕ) (c : Kid) → AllFit U inner_least (suc h) c → q ≤ length (U c.number).named
      → 1 + suc q * fewest h ≤ length (nums U (suc h) c)
  root_many h q c w p =
      let b : suc q ≤ length (kids_of U c) = omega (arith, kids_length c) in
      omega (arith, all_many h (fit_many h) (kids_of U c) w.1, mul-le-mul_right (fewest h) b)

module _ {U : Views} {used root : ℕ} (sized : Sized U) where
  -- nine levels or more
  pub nine_levels : {h : ℕ} → Whole U used h root → 8 ≤ h → 43691 ≤ used
  nine_levels {h = zero} w p = absurd (omega arith)
  nine_levels {h = suc h} w p =
      let n = fits_says inner_least 0 no_end (U root) w.fit.0 in
      omega (arith, root_many U sized h 1 (kid root 0 no_end) w.fit n.low, whole_size w, fewest_eight h (omega arith))

  -- eight levels with a full root
  pub eight_levels : {h : ℕ} → Whole U used h root → h ≡ 7 → length (U root).named ≡ entries → 43689 ≤ used
  eight_levels w e full =
      let w' : Whole U used 7 root = rw e at w in
      omega (arith, root_many U sized 6 7 (kid root 0 no_end) w'.fit (omega arith), whole_size w')

-- how many new nodes a record needs that goes up into these nodes, of which each full one is split
abbrev pub needs : Views → List ℕ → ℕ
needs U [] = 1
needs U (k ∷ ks) = if eqb (length (U k).named) entries then suc (needs U ks) else 0

one_more : {n b : ℕ} (t : Bool) → n ≤ b → (if t then suc n else 0) ≤ suc b
one_more true h = omega arith
one_more false h = omega arith

needs_most : (U : Views) (ks : List ℕ) → needs U ks ≤ suc (length ks)
needs_most U [] = omega arith
needs_most U (k ∷ ks) = one_more (eqb (length (U k).named) entries) (needs_most U ks)

-- at most one a level, unless all are full up to the root
needs_levels : {U : Views} {H : ℕ} {r : Kid} {h : ℕ} {c : Kid} {ls : List Level} → Around U H r h c ls
    → (needs U (c.number ∷ above ls) ≤ suc (length (above ls))) ⊎ (length (U r.number).named ≡ entries)
needs_levels {U} {c = c} top = go (eqb (length (U c.number).named) entries) refl
  where
    go : (b : Bool) → eqb (length (U c.number).named) entries ≡ b
        → (needs U (c.number ∷ []) ≤ 1) ⊎ (length (U c.number).named ≡ entries)
    go true t = inr (eqb-true (length (U c.number).named) entries t)
    go false t = inl (rw t (omega arith))
needs_levels {U} {c = c} (under x y) =
    ⊎_elim (λ n. inl (one_more (eqb (length (U c.number).named) entries) n)) inr (needs_levels y)

module _ {m : List ℕ} (w : WellFormed m) where
  -- in eight levels the root has room, so not all of a way can be full
  pub root_room : height_of m ≡ height_most → length (view m (root_of m)).named ≡ entries → ⊥
  root_room h e =
      let s = form m w.form in
      let c = counts m w.counts in
      let n : 43689 ≤ used_of m = eight_levels (view_sized m) w.whole (omega arith) e in
      omega (arith, s.capacity, c.used)

  -- a split never needs more than eight new nodes
  pub split_needs : {key : ℕ} (y : Reached m key) → needs (view m) (y.place.number ∷ above y.up) ≤ height_most
  split_needs y = ⊎_elim (λ n. omega (arith, around_height y.around, c.height)) full (needs_levels y.around)
    where
      c : Counts m
      c = counts m w.counts

      full : length (view m (root_of m)).named ≡ entries → needs (view m) (y.place.number ∷ above y.up) ≤ height_most
      full e = go (dec_le height_most (height_of m))
        where
          n : needs (view m) (y.place.number ∷ above y.up) ≤ suc (suc (length (above y.up)))
          n = needs_most (view m) (y.place.number ∷ above y.up)

          go : Dec (height_most ≤ height_of m) → needs (view m) (y.place.number ∷ above y.up) ≤ height_most
          go (yes p) = absurd (root_room (omega (arith, c.height)) e)
          go (no p) = omega (arith, around_height y.around, n)
