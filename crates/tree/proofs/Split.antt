-- A full leaf that is split, at any height, with a new root or without: the whole tree after it, and its records.
use Prim.Native.Nat.{ℕ, suc, ◌+◌, ◌≤◌, ◌<◌}
use mathlib.Core.Path.{◌≡◌, ◌∙◌}
use mathlib.Core.Logic.{◌⊎◌, inl, inr}
use mathlib.Core.List.{List, [], ◌∷◌, ◌++◌, append_assoc}
use mathlib.Core.Bool.{true, false}
use native.Mathlib.Omega.{arith}
use native.Mathlib.Decide.{dec_le}
use lib.ListN.{length, take-append-drop}
use lib.Seq.{drop-cons}
use Rattle.words.specs.Lists.{count_from}
use Rattle.node.specs.Lists.{has}
use Rattle.node.specs.Slot.{entries}
use Rattle.node.specs.View.{Record, keys, no_end}
use Rattle.tree.specs.Kids.{Kid, kid, fits, leaf_least, below_root_least}
use Rattle.tree.specs.Lists.{occ}
use Rattle.tree.specs.WellFormed.{Views, AllFit, nums, leaves, Whole}
use Rattle.tree.specs.Map.{records_in}
use Rattle.tree.specs.Halves.{eight, lower, lower_four, upper_four, fifth, upper_three, supply, used_with}
use Rattle.tree.proofs.Lists.{gather_append}
use Rattle.tree.proofs.Keys.{rise_more, rise_insert}
use Rattle.tree.proofs.Fits.{fits_says, Says, says_fits, Sized}
use Rattle.tree.proofs.Frame.{On, records_same}
use Rattle.tree.proofs.Hole.{Level, above, Around, beside, leaves_left, leaves_right}
use Rattle.tree.proofs.Along.{along_nums, on_beside, on_left, on_right, along_linked}
use Rattle.tree.proofs.Eight.{Eight, eight_parts, eight_more}
use Rattle.tree.proofs.Rise.{Grown, low_kid, high_kid, Came, rise_law}
use Rattle.tree.proofs.Occurs.{from_in, from_out}

-- the full leaf c has become two at the new record r: the lower four of the eight records stay, with the link to the new leaf, which has
-- the upper four and the old link
pub record Parted (U U' : Views) (used : ℕ) (c : Kid) (r : Record) : Type 0 where
  pub full : length (U c.number).named ≡ entries
  pub absent : has r.0 (keys (U c.number).records) ≡ false
  pub from : c.from ≤ r.0
  pub upto : r.0 < c.upto
  pub low : Says U' c.number (supply used 0) (lower_four (U c.number) r)
  pub high : Says U' (supply used 0) (U c.number).link (upper_four (U c.number) r)

module _ {U U' : Views} {used H root d root' H' : ℕ} {c : Kid} {ls : List Level} {r : Record} (sized : Sized U) (w : Whole U used H root)
    (x : Around U H (kid root 0 no_end) 0 c ls) (fit : fits leaf_least c (U c.number) ≡ true)
    (off : (j : ℕ) → 1 ≤ j → j ≤ used → occ j (c.number ∷ above ls) ≡ 0 → U' j ≡ U j) (g : Parted U U' used c r)
    (up : Grown U U' used root H (above ls) ((fifth (U c.number) r).0, supply used 0) 1 d root' H') where
  abbrev k : ℕ
  k = c.number

  abbrev all : List Record
  all = eight (U k) r

  abbrev e : Record
  e = ((fifth (U k) r).0, supply used 0)

  abbrev was : Kid
  was = kid root 0 no_end

  abbrev now : Kid
  now = kid root' 0 no_end

  same_beside : On U U' (beside U 0 ls)
  same_beside = on_beside w x off

  all_length : length all ≡ 8
  all_length = eight_more (U k) r ∙ omega (arith, sized k, g.full)

  parts : Eight c.from c.upto (U k) r
  parts =
      let n = fits_says leaf_least c.from c.upto (U k) fit in
      eight_parts (U k) r all_length (rise_insert r (U k).records n.rises g.from g.upto g.absent)

  high_is : upper_four (U k) r ≡ fifth (U k) r ∷ upper_three (U k) r
  high_is = drop-cons all lower (0, 0) (omega (arith, all_length))

  low_fit : AllFit U' below_root_least 0 (low_kid c e)
  low_fit = says_fits g.low (omega arith) (omega (arith, parts.four)) parts.cut.left

  high_fit : AllFit U' below_root_least 0 (high_kid c e)
  high_fit =
      let l : (fifth (U k) r).0 ≤ (fifth (U k) r).0 = omega arith in
      says_fits g.high (omega arith) (rw high_is (omega (arith, parts.three)))
      (rw high_is (rise_more l parts.cut.under parts.cut.right))

  came : Came U U' used 0 ls (low_kid c e) (high_kid c e) 1 d H' now
  came =
      let from : c.from < e.0 = omega (arith, parts.four, parts.cut.over) in
      rise_law U U' sized used root H e x up same_beside from parts.cut.under low_fit high_fit

  pub split_leaves : leaves U' H' now ≡ leaves_left U 0 ls ++ (k ∷ supply used 0 ∷ leaves_right U 0 ls)
  split_leaves = came.leaves_are

  -- the new numbers follow the used ones
  abbrev new : List ℕ
  new = count_from (supply used 0) (suc came.made)

  split_nums : (j : ℕ) → occ j (nums U' H' now) ≡ occ j (nums U H was) + occ j new
  split_nums j =
      let n : supply used 1 ≡ supply used 0 + 1 = omega arith in
      came.nums_are j ∙ rw n (omega (arith, along_nums w x j))

  is_new : (j : ℕ) → used < j → j ≤ used_with used d → occ j new ≡ 1
  is_new j p q = from_in j (supply used 0) (suc came.made) (omega arith) (omega (arith, came.total))

  not_new : (j : ℕ) → (j ≤ used) ⊎ (used_with used d < j) → occ j new ≡ 0
  not_new j (inl p) = from_out j (supply used 0) (suc came.made) (inl (omega arith))
  not_new j (inr p) = from_out j (supply used 0) (suc came.made) (inr (omega (arith, came.total)))

  not_old : (j : ℕ) → used < j → occ j (nums U H was) ≡ 0
  not_old j p = go (dec_le 1 (occ j (nums U H was)))
    where
      go : Dec (1 ≤ occ j (nums U H was)) → occ j (nums U H was) ≡ 0
      go (yes q) = let i = w.only j q in absurd (omega arith)
      go (no q) = omega arith

  pub split_whole : Whole U' (used_with used d) H' root'
  split_whole = record {
    fit = came.fit;
    linked = rw split_leaves (along_linked w x U' same_beside (supply used 0 ∷ []) (g.low.links, (g.high.links, tt)));
    once = λ j p q. split_nums j ∙ once j p q (dec_le j used);
    only = λ j p. only j p (dec_le j used) (dec_le j (used_with used d));
  }
    where
      once : (j : ℕ) → 1 ≤ j → j ≤ used_with used d → Dec (j ≤ used) → occ j (nums U H was) + occ j new ≡ 1
      once j p q (yes h) = omega (arith, w.once j p h, not_new j (inl h))
      once j p q (no h) = omega (arith, not_old j (omega arith), is_new j (omega arith) q)

      only : (j : ℕ) → 1 ≤ occ j (nums U' H' now) → Dec (j ≤ used) → Dec (j ≤ used_with used d) → (1 ≤ j) × (j ≤ used_with used d)
      only j p (yes h) q = let i = w.only j (omega (arith, split_nums j, not_new j (inl h))) in (i.0, omega arith)
      only j p (no h) (yes q) = (omega arith, q)
      only j p (no h) (no q) = absurd (omega (arith, split_nums j, not_old j (omega arith), not_new j (inr (omega arith))))

  pub split_records : records_in U' (leaves U' H' now)
      ≡ records_in U (leaves_left U 0 ls) ++ (all ++ records_in U (leaves_right U 0 ls))
  split_records =
      let a : records_in U' (leaves_left U 0 ls) ≡ records_in U (leaves_left U 0 ls) =
      records_same U U' (leaves_left U 0 ls) (on_left w x U' same_beside) in
      let b : records_in U' (leaves_right U 0 ls) ≡ records_in U (leaves_right U 0 ls) =
      records_same U U' (leaves_right U 0 ls) (on_right w x U' same_beside) in
      rw (split_leaves, gather_append, a, b, g.low.holds, g.high.holds, ← append_assoc (lower_four (U k) r) (upper_four (U k) r))
      (rw take-append-drop)
