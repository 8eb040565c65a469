-- A put that splits, in 01's table: where the way ends in a leaf, the levels that split and the nodes that they need are those that the
-- definition counts.
use Prim.Native.Nat.{ℕ, zero, suc, ◌+◌, ◌-◌, ◌≤◌, ◌<◌}
use mathlib.Core.Path.{◌≡◌, refl, sym, ◌∙◌, ap}
use mathlib.Core.Logic.{◌⊎◌, inl, inr}
use mathlib.Core.List.{List, [], ◌∷◌}
use mathlib.Core.Bool.{Bool, true, false, not, ◌&&◌}
use native.Mathlib.Nat.{eq-or-lt_of_le}
use native.Mathlib.Omega.{arith}
use lib.ListN.{length, get_or}
use lib.Dec.{ltb}
use Rattle.words.specs.Tests.{within}
use Rattle.words.specs.Pool.{height_most}
use Rattle.words.specs.Event.{at}
use Rattle.words.proofs.Fails.{sure, told, failing, why_failed, tells_by, tells_less}
use Rattle.words.proofs.Tests.{Tells, is, isnt, tells_equal, tells_and, differ, fails}
use Rattle.node.specs.Lists.{has}
use Rattle.node.specs.View.{view, keys}
use Rattle.tree.specs.Header.{capacity_of, used_of, counts_agree}
use Rattle.tree.specs.Kids.{Kid, kid, pick, fits}
use Rattle.tree.specs.Path.{Way, failed, leaf, parent, way, levels_above, way_to}
use Rattle.tree.proofs.Form.{counts}
use Rattle.tree.proofs.Path.{passed, way_length, way_to_counts, way_to_length}
use Rattle.change.specs.Steps.{full}
use Rattle.change.specs.Put.{needed}
use Rattle.change.specs.Conditions as w
use Rattle.change.proofs.ConditionsNode.{names_many, fails_there}
use Rattle.change.proofs.ConditionsChild.{pick_child}
use Rattle.change.proofs.ConditionsPath.{through, fits_on}

-- the lowest l of the nodes are full, and the next one, if there is one, is not
record Levels (m : List ℕ) (ks : List ℕ) (l : ℕ) : Type 0 where
  most : l ≤ length ks
  fulls : (i : ℕ) → i < l → full (view m (get_or ks i 0)) ≡ true
  stops : l < length ks → full (view m (get_or ks l 0)) ≡ false

module _ (m : List ℕ) where
  tells_full : (k : ℕ) → Tells (w.count m k ≡ 7) (full (view m k))
  tells_full k = tells_by (λ e. sym (names_many m k) ∙ e) (λ e. names_many m k ∙ e) (tells_equal (length (view m k).named) 7)

  above : {k l : ℕ} {ks : List ℕ} → Levels m (k ∷ ks) (suc l) → Levels m ks l
  above x = record {
    most = omega (arith, x.most);
    fulls = λ i h. x.fulls (suc i) (omega arith);
    stops = λ h. x.stops (omega arith);
  }

  levels : (ks : List ℕ) → (l : ℕ) × Levels m ks l
  levels [] = (0, record { most = omega arith; fulls = λ i h. absurd (omega arith); stops = λ h. absurd (omega arith) })
  levels (k ∷ ks) = go (full (view m k)) refl (levels ks)
    where
      go : (b : Bool) → full (view m k) ≡ b → (l : ℕ) × Levels m ks l → (l : ℕ) × Levels m (k ∷ ks) l
      go false e x = (0, record { most = omega arith; fulls = λ i h. absurd (omega arith); stops = λ h. e })
      go true e x = (suc x.0, record { most = omega (arith, x.1.most); fulls = full_at; stops = λ h. x.1.stops (omega arith) })
        where
          full_at : (i : ℕ) → i < suc x.0 → full (view m (get_or (k ∷ ks) i 0)) ≡ true
          full_at zero h = e
          full_at (suc i) h = x.1.fulls i (omega arith)

  -- "l levels need l, or l + 1 with a new root"
  needed_kept : (ks : List ℕ) (l : ℕ) → Levels m ks l → l < length ks → needed m ks ≡ l
  unfolding needed
  needed_kept [] l x h = absurd (omega arith)
  needed_kept (k ∷ ks) zero x h = rw (x.stops h)
  needed_kept (k ∷ ks) (suc l) x h = rw (x.fulls 0 (omega arith)) (ap suc (needed_kept ks l (above x) (omega arith)))

  needed_root : (ks : List ℕ) (l : ℕ) → Levels m ks l → l ≡ length ks → needed m ks ≡ suc l
  unfolding needed
  needed_root [] l x h = rw h
  needed_root (k ∷ ks) zero x h = absurd (omega arith)
  needed_root (k ∷ ks) (suc l) x h = rw (x.fulls 0 (omega arith)) (ap suc (needed_root ks l (above x) (omega arith)))

-- the way of a key ended in leaf k, below the nodes ks
module _ (m : List ℕ) (key : ℕ) {k : ℕ} {ks : List ℕ} (end : way_to m key ≡ leaf k ks) where
  abbrev nodes : List ℕ
  nodes = k ∷ ks

  agrees : counts_agree m ≡ true
  agrees = way_to_counts m key end

  high : length nodes ≡ at m 7
  high = let h = (counts m agrees).height.0 in omega (arith, way_to_length m key end)

  -- the nodes of the way from one on, nearest first
  abbrev seats : Way → List ℕ
  seats (failed node) = []
  seats (leaf l up) = l ∷ up

  place : (n : ℕ) (c : Kid) (up : List ℕ) → way n m key c up ≡ leaf k ks → (i j : ℕ) → i ≡ n + j
      → get_or nodes i 0 ≡ get_or (c.number ∷ up) j 0
  unfolding way
  place zero c up e i j s =
      let p = passed (within 1 c.number (used_of m)) (fits 0 c (view m c.number)) (parent up) c.number (leaf c.number up) e in
      let same : i ≡ j = omega arith in
      rw same (ap (λ (x : Way). get_or (seats x) j 0) (sym p.rest))
  place (suc n) c up e i j s =
      let p = passed (within 1 c.number (used_of m)) (fits 1 c (view m c.number)) (parent up) c.number _ e in
      place n (pick key c (view m c.number)) (c.number ∷ up) p.rest i (suc j) (omega arith)

  -- a node on the path is one of them, by the levels below it
  seated : {i n lo hi : ℕ} → w.OnPath m key i n lo hi → (get_or nodes i 0 ≡ n) × (i < length nodes)
  seated {i} {n} {lo} {hi} p =
      let a = through m key agrees p in
      let e = sym a.rest ∙ end in
      (place i (kid n lo hi) a.up e i 0 (omega arith), omega (arith, way_length i m key (kid n lo hi) a.up e))

  -- and each of them is on the path
  record On (i : ℕ) : Type 0 where
    from : ℕ
    upto : ℕ
    on : w.OnPath m key i (get_or nodes i 0) from upto

  on_here : {n x lo hi : ℕ} → w.OnPath m key n x lo hi → On n
  on_here {lo = lo} {hi = hi} p = record { from = lo; upto = hi; on = rw (seated p).0 p }

  on_from : (n : ℕ) {x lo hi : ℕ} → w.OnPath m key n x lo hi → (i : ℕ) → i ≤ n → On i
  on_from zero p i h = let e : i ≡ 0 = omega arith in rw e (on_here p)
  on_from (suc n) {x} p i h =
      let f = fits_on m key agrees end p in
      go (eq-or-lt_of_le h) (on_from n (w.down p f (pick_child m x f key)) i)
    where
      go : (i ≡ suc n) ⊎ (i < suc n) → (i ≤ n → On i) → On i
      go (inl e) rest = rw e (on_here p)
      go (inr l) rest = rest (omega arith)

  on_at : (i : ℕ) → i < length nodes → On i
  on_at i h = on_from (levels_above m) w.top i (omega (arith, high))

  -- the levels that a put splits are those that are full on the way
  full_at : {i : ℕ} → w.FullAt m key i → full (view m (get_or nodes i 0)) ≡ true
  full_at f = rw (seated f.on).0 (sure (tells_full m f.node) f.seven)

  at_full : (i : ℕ) → i < length nodes → full (view m (get_or nodes i 0)) ≡ true → w.FullAt m key i
  at_full i h t =
      let o = on_at i h in
      record { node = get_or nodes i 0; from = o.from; upto = o.upto; on = o.on; seven = told (tells_full m (get_or nodes i 0)) t }

  to_levels : {l : ℕ} → w.Splits m key l → Levels m nodes l
  to_levels {l} s = record {
    most = let h = (seated (s.fulls (l - 1) (omega (arith, s.some))).on).1 in omega (arith, s.some);
    fulls = λ i h. full_at (s.fulls i h);
    stops = λ h. fails _ (λ t. s.stops (at_full l h t));
  }

  to_splits : {l : ℕ} → has key (keys (view m k).records) ≡ false → 1 ≤ l → Levels m nodes l → w.Splits m key l
  to_splits {l} e h x = record {
    absent = λ {k = x} p. let same : k ≡ x = (seated p).0 in rw (← same) (why_failed (fails_there m k key) e);
    some = h;
    fulls = λ i g. at_full i (omega (arith, x.most)) (x.fulls i g);
    stops = λ f. differ (sym (full_at f) ∙ x.stops (seated f.on).1);
  }

  tells_splits : Tells ((l : ℕ) × w.Splits m key l) (not (has key (keys (view m k).records)) && full (view m k))
  tells_splits = go (has key (keys (view m k).records)) refl (full (view m k)) refl
    where
      leaf_full : {l : ℕ} → w.Splits m key l → full (view m k) ≡ true
      leaf_full s = (to_levels s).fulls 0 s.some

      leaf_lacks : {l : ℕ} → w.Splits m key l → has key (keys (view m k).records) ≡ false
      leaf_lacks s = failing (fails_there m k key) (s.absent (on_at 0 (omega arith)).on)

      go : (a : Bool) → has key (keys (view m k).records) ≡ a → (b : Bool) → full (view m k) ≡ b
          → Tells ((l : ℕ) × w.Splits m key l) (not a && b)
      go true e b f = isnt (λ s. differ (sym e ∙ leaf_lacks s.1))
      go false e false f = isnt (λ s. differ (sym (leaf_full s.1) ∙ f))
      go false e true f = let x = levels m nodes in is (x.0, to_splits e (some_level x.0 x.1) x.1)
        where
          some_level : (l : ℕ) → Levels m nodes l → 1 ≤ l
          some_level zero x = absurd (differ (sym f ∙ x.stops (omega arith)))
          some_level (suc l) x = omega arith

  -- a put that splits, for which n nodes are too few
  abbrev splits_past : ℕ → Bool
  splits_past n = not (has key (keys (view m k).records)) && full (view m k) && ltb n (needed m nodes)

  tells_past : (n : ℕ) → Tells (((l : ℕ) × w.Splits m key l) × (n < needed m nodes)) (splits_past n)
  tells_past n = tells_and tells_splits (tells_less n (needed m nodes))

  -- 5
  pub tells_no_room : Tells (w.NoRoom m key) (splits_past (capacity_of m - used_of m))
  tells_no_room = tells_by to from (tells_past (capacity_of m - used_of m))
    where
      to : ((l : ℕ) × w.Splits m key l) × (at m 4 - at m 5 < needed m nodes) → w.NoRoom m key
      to ((l, s), h) = go (eq-or-lt_of_le (to_levels s).most)
        where
          go : (l ≡ length nodes) ⊎ (l < length nodes) → w.NoRoom m key
          go (inl e) = w.new_root l s (e ∙ high) (omega (arith, needed_root m nodes l (to_levels s) e))
          go (inr g) = w.root_kept l s (omega (arith, high)) (omega (arith, needed_kept m nodes l (to_levels s) g))

      from : w.NoRoom m key → ((l : ℕ) × w.Splits m key l) × (at m 4 - at m 5 < needed m nodes)
      from (w.new_root l s e h) = ((l, s), omega (arith, needed_root m nodes l (to_levels s) (e ∙ sym high)))
      from (w.root_kept l s g h) = ((l, s), omega (arith, needed_kept m nodes l (to_levels s) (omega (arith, high))))

  -- 4, after 5
  pub tells_eight : Tells (w.SplitsEight m key) (splits_past height_most)
  tells_eight = tells_by to from (tells_past 8)
    where
      to : ((l : ℕ) × w.Splits m key l) × (8 < needed m nodes) → w.SplitsEight m key
      to ((l, s), h) = go (eq-or-lt_of_le (to_levels s).most)
        where
          low : at m 7 ≤ 8
          low = (counts m agrees).height.1

          go : (l ≡ length nodes) ⊎ (l < length nodes) → w.SplitsEight m key
          go (inl e) =
              let x = needed_root m nodes l (to_levels s) e in
              let eight : l ≡ 8 = omega (arith, high, low) in
              (omega (arith, high), rw eight at s)
          go (inr g) = let x = needed_kept m nodes l (to_levels s) g in absurd (omega (arith, high, low))

      from : w.SplitsEight m key → ((l : ℕ) × w.Splits m key l) × (8 < needed m nodes)
      from x = ((8, x.1), omega (arith, needed_root m nodes 8 (to_levels x.1) (omega (arith, high, x.0))))
