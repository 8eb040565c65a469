-- The path of a key in 01's table, and the way down: refusal 4 applies exactly where the way fails.
use Prim.Native.Nat.{ℕ, zero, suc}
use mathlib.Core.Path.{◌≡◌, refl, sym, ◌∙◌, ap}
use mathlib.Core.Logic.{◌⊎◌, inl, inr}
use mathlib.Core.List.{List, [], ◌∷◌}
use mathlib.Core.Bool.{Bool, true, false}
use Rattle.words.specs.Tests.{within}
use Rattle.words.specs.Event.{at}
use Rattle.words.proofs.Fails.{Fails, breaks, keeps, sure, told, fails_within, not_out, out_in}
use Rattle.words.proofs.Tests.{Tells, is, isnt, tells_and, within_of, within_says}
use Rattle.node.specs.View.{view, good}
use Rattle.node.proofs.Views.{good_parts}
use Rattle.tree.specs.Header.{used_of, counts_agree}
use Rattle.tree.specs.Kids.{Kid, kid, pick}
use Rattle.tree.specs.Path.{Way, failed, leaf, parent, way, levels_above, way_to}
use Rattle.tree.proofs.Path.{failed_not, passed}
use Rattle.tree.proofs.Ways.{bad_header}
use Rattle.change.specs.Conditions as w
use Rattle.change.proofs.Conditions.{fails_counts}
use Rattle.change.proofs.ConditionsNode.{least, tells_covered, tells_sound}
use Rattle.change.proofs.ConditionsChild.{pick_child, child_picked}

-- the way ended in no leaf
abbrev pub lost : Way → Bool
lost (failed node) = true
lost (leaf k above) = false

-- a node fits where its tests pass
module _ (m : List ℕ) {levels k lo hi : ℕ} where
  tells_good : Tells (w.Sound m levels k × w.Covered m k lo hi) (good (least levels) lo hi (view m k))
  unfolding good
  tells_good = tells_and (tells_sound m k levels) (tells_covered m k lo hi)

  fit_tests : w.Fit m levels k lo hi → (within 1 k (used_of m) ≡ true) × (good (least levels) lo hi (view m k) ≡ true)
  fit_tests f = (within_of 1 k (used_of m) f.in_use.0 f.in_use.1, sure tells_good (f.sound, f.covered))

  tests_fit : within 1 k (used_of m) ≡ true → good (least levels) lo hi (view m k) ≡ true → w.Fit m levels k lo hi
  tests_fit u g = let t = told tells_good g in record { in_use = within_says 1 k (used_of m) u; sound = t.0; covered = t.1 }

module _ (m : List ℕ) (key : ℕ) where
  -- a node that fits, with levels below it and without
  goes : {levels k lo hi : ℕ} (up : List ℕ) → w.Fit m (suc levels) k lo hi
      → way (suc levels) m key (kid k lo hi) up ≡ way levels m key (pick key (kid k lo hi) (view m k)) (k ∷ up)
  unfolding way
  goes up f = let t = fit_tests m f in rw (t.0, t.1)

  ends : {k lo hi : ℕ} (up : List ℕ) → w.Fit m 0 k lo hi → way 0 m key (kid k lo hi) up ≡ leaf k up
  unfolding way
  ends up f = let t = fit_tests m f in rw (t.0, t.1)

  -- a node on the path fits, or the pool is damaged there
  tested : {levels k lo hi : ℕ} → w.OnPath m key levels k lo hi → w.Fit m levels k lo hi ⊎ w.Damaged m key
  tested {levels} {k} {lo} {hi} p = go (fails_within 1 k (at m 5)) (tells_sound m k levels) (tells_covered m k lo hi)
    where
      go : {a b c : Bool} → Fails (w.Outside 1 k (at m 5)) a → Tells (w.Sound m levels k) b → Tells (w.Covered m k lo hi) c
          → w.Fit m levels k lo hi ⊎ w.Damaged m key
      go (breaks o) s c = inr (w.out_of_use p o)
      go (keeps n) (isnt s) c = inr (w.unsound p s)
      go (keeps n) (is s) (isnt c) = inr (w.uncovered p c)
      go (keeps n) (is s) (is c) = inl (record { in_use = not_out 1 k (at m 5) n; sound = s; covered = c })

  -- where the way from a node on the path fails, the pool is damaged
  fault : (levels : ℕ) {k lo hi n : ℕ} (up : List ℕ) → w.OnPath m key levels k lo hi → way levels m key (kid k lo hi) up ≡ failed n
      → w.Damaged m key
  fault zero {k = k} {lo = lo} {hi = hi} up p e = go (tested p)
    where
      go : w.Fit m 0 k lo hi ⊎ w.Damaged m key → w.Damaged m key
      go (inl f) = failed_not (sym e ∙ ends up f)
      go (inr d) = d
  fault (suc levels) {k = k} {lo = lo} {hi = hi} {n = n} up p e = go (λ p'. fault levels (k ∷ up) p') (tested p)
    where
      c : Kid
      c = pick key (kid k lo hi) (view m k)

      go : (w.OnPath m key levels c.number c.from c.upto → way levels m key c (k ∷ up) ≡ failed n → w.Damaged m key)
          → w.Fit m (suc levels) k lo hi ⊎ w.Damaged m key → w.Damaged m key
      go rest (inl f) = rest (w.down p f (pick_child m k f key)) (sym (goes up f) ∙ e)
      go rest (inr d) = d

  -- where it ends in a leaf, the node fits
  passes : (levels : ℕ) {k lo hi l : ℕ} {above : List ℕ} (up : List ℕ) → way levels m key (kid k lo hi) up ≡ leaf l above
      → w.Fit m levels k lo hi
  unfolding way
  passes zero {k} {lo} {hi} up e =
      let p = passed (within 1 k (used_of m)) (good 0 lo hi (view m k)) (parent up) k (leaf k up) e in
      tests_fit m p.first p.second
  passes (suc levels) {k} {lo} {hi} up e =
      let p = passed (within 1 k (used_of m)) (good 1 lo hi (view m k)) (parent up) k _ e in
      tests_fit m p.first p.second

  -- the way goes through every node on the path
  pub record Through (levels k lo hi : ℕ) : Type 0 where
    pub up : List ℕ
    pub rest : way_to m key ≡ way levels m key (kid k lo hi) up

  pub through : counts_agree m ≡ true → {levels k lo hi : ℕ} → w.OnPath m key levels k lo hi → Through levels k lo hi
  unfolding way_to
  through t w.top = record { up = []; rest = rw t refl }
  through t (w.down {levels = levels} {k = k} p f c) =
      let a = through t p in
      let rise = (good_parts (fit_tests m f).1).keys_rise in
      record {
        up = k ∷ a.up;
        rest = a.rest ∙ goes a.up f ∙ ap (λ (d : Kid). way levels m key d (k ∷ a.up)) (child_picked m k f rise c);
      }

  -- a node on the path fits, where the way ends in a leaf
  pub fits_on : counts_agree m ≡ true → {l : ℕ} {above : List ℕ} → way_to m key ≡ leaf l above
      → {levels k lo hi : ℕ} → w.OnPath m key levels k lo hi → w.Fit m levels k lo hi
  fits_on t e {levels = levels} p = let a = through t p in passes levels a.up (sym a.rest ∙ e)

  -- 4: the header, then the path
  pub tells_damaged : Tells (w.Damaged m key) (lost (way_to m key))
  tells_damaged = go (fails_counts m) refl
    where
      go : {b : Bool} → Fails (w.BadCounts m) b → counts_agree m ≡ b → Tells (w.Damaged m key) (lost (way_to m key))
      go (breaks h) e = rw (bad_header m key e) (is (w.header h))
      go (keeps n) e = at_end (way_to m key) refl
        where
          at_end : (x : Way) → way_to m key ≡ x → Tells (w.Damaged m key) (lost x)
          at_end (failed node) f = let a = through e w.top in is (fault (levels_above m) a.up w.top (sym a.rest ∙ f))
          at_end (leaf l above) f = isnt sound_way
            where
              sound_way : w.Damaged m key → ⊥
              sound_way (w.header h) = n h
              sound_way (w.out_of_use p o) = let g = fits_on e f p in out_in o g.in_use.0 g.in_use.1
              sound_way (w.unsound p s) = s (fits_on e f p).sound
              sound_way (w.uncovered p c) = c (fits_on e f p).covered
