-- A split that rises through the levels above: what they have become, and the tree that has come of it.
use Prim.Native.Nat.{ℕ, suc, ◌+◌, ◌<◌}
use mathlib.Core.Path.{◌≡◌, refl, sym, ◌∙◌}
use mathlib.Core.List.{List, [], ◌∷◌, ◌++◌, append_assoc, append-nil}
use mathlib.Core.Bool.{true}
use native.Mathlib.Omega.{arith}
use lib.ListN.{length}
use Rattle.words.specs.Lists.{count_from}
use Rattle.node.specs.Slot.{entries}
use Rattle.node.specs.View.{Record, keys, no_end}
use Rattle.tree.specs.Kids.{Kid, kid, kids_from, fits, inner_least, below_root_least}
use Rattle.tree.specs.Lists.{gather, Each, one, occ}
use Rattle.tree.specs.WellFormed.{Views, kids_of, AllFit, nums, leaves}
use Rattle.tree.specs.Halves.{eight, lower_four, fifth, upper_three, supply}
use Rattle.tree.proofs.Lists.{gather_append, each_append, each_left, each_right, occ_append}
use Rattle.tree.proofs.Keys.{Rise, rise_none, rise_more, rise_from, last_key, first_key}
use Rattle.tree.proofs.Fits.{Node, fits_says, Says, says_fits, Sized}
use Rattle.tree.proofs.Frame.{On}
use Rattle.tree.proofs.Hole.{Level, least, above, lefts_of, rights_of, Holds, Around, top, under, beside, leaves_left}
use Rattle.tree.proofs.Hole.{leaves_right, occ_beside, around_nums, around_leaves, around_fit, SameAround, on_lefts}
use Rattle.tree.proofs.Hole.{on_rights, on_rest, same_around, around_same}
use Rattle.tree.proofs.Eight.{Eight, eight_parts, gap_rises, gap_kids, eight_more}

-- what the nodes above have become: the record r, a key and a child, goes up into them, with i new nodes made so far. Then there are d
-- of them, and the root is root', H' levels above the leaves.
pub data Grown (U U' : Views) (used root H : ℕ) : List ℕ → Record → ℕ → ℕ → ℕ → ℕ → Type 0 where
  -- a new root
  crowned : {r : Record} {i : ℕ} → Says U' (supply used i) root (r ∷ []) → Grown U U' used root H [] r i (i + 1) (supply used i) (suc H)
  -- a node with room took r in, and those above it are the same
  took : {k : ℕ} {ks : List ℕ} {r : Record} {i : ℕ} → length (U k).named < entries → Says U' k (U k).link (eight (U k) r)
      → On U U' ks → Grown U U' used root H (k ∷ ks) r i i root H
  -- a full node was split: the lower four stay, the fifth's key goes up with the new node, which has the upper three
  halved : {k : ℕ} {ks : List ℕ} {r : Record} {i d root' H' : ℕ} → length (U k).named ≡ entries
      → Says U' k (U k).link (lower_four (U k) r)
      → Says U' (supply used i) (fifth (U k) r).1 (upper_three (U k) r)
      → Grown U U' used root H ks ((fifth (U k) r).0, supply used i) (i + 1) d root' H'
      → Grown U U' used root H (k ∷ ks) r i d root' H'

-- the child in the hole became two at the record r
abbrev pub low_kid : Kid → Record → Kid
low_kid c r = kid c.number c.from r.0

abbrev pub high_kid : Kid → Record → Kid
high_kid c r = kid r.1 r.0 c.upto

-- the tree that has come of it
pub record Came (U U' : Views) (used h : ℕ) (ls : List Level) (a b : Kid) (i d H' : ℕ) (r' : Kid) : Type 0 where
  pub made : ℕ
  pub total : d ≡ i + made
  pub fit : AllFit U' inner_least H' r'
  pub leaves_are : leaves U' H' r' ≡ leaves_left U h ls ++ ((leaves U' h a ++ leaves U' h b) ++ leaves_right U h ls)
  pub nums_are : (j : ℕ) → occ j (nums U' H' r')
      ≡ occ j (nums U' h a) + occ j (nums U' h b) + occ j (above ls) + occ j (beside U h ls) + occ j (count_from (supply used i) made)

-- a level whose hole now has two children, a and b
module _ (U U' : Views) {q h : ℕ} {c : Kid} {l : Level} (ls : List Level) (a b : Kid) (x : Holds U q h c l)
    (o : On U U' (beside U h (l ∷ ls))) where
  abbrev Fit : Kid → Type 0
  Fit = AllFit U' below_root_least h

  abbrev more : List Kid
  more = lefts_of U l ++ (a ∷ b ∷ rights_of U l)

  more_fit : Fit a → Fit b → Each Fit more
  more_fit fa fb =
      each_append Fit (lefts_of U l) (a ∷ b ∷ rights_of U l) ((on_lefts U U' h l ls o).fit x.lefts_fit)
      (fa, (fb, (on_rights U U' h l ls o).fit x.rights_fit))

  more_leaves : gather (leaves U' h) more
      ≡ gather (leaves U h) (lefts_of U l) ++ ((leaves U' h a ++ leaves U' h b) ++ gather (leaves U h) (rights_of U l))
  more_leaves = rw (gather_append, (on_lefts U U' h l ls o).leaves_are, (on_rights U U' h l ls o).leaves_are, append_assoc)

  more_nums : (j : ℕ) → occ j (gather (nums U' h) more) + occ j (beside U (suc h) ls)
      ≡ occ j (nums U' h a) + occ j (nums U' h b) + occ j (beside U h (l ∷ ls))
  more_nums j =
      rw (gather_append, (on_lefts U U' h l ls o).nums_are, (on_rights U U' h l ls o).nums_are, occ_append, occ_append, occ_append)
      (omega (arith, occ_beside U j h l ls))

module _ (U U' : Views) (sized : Sized U) (used root H : ℕ) where
  abbrev top_kid : Kid
  top_kid = kid root 0 no_end

  -- a new root above the old one
  crown : {r : Record} {i : ℕ} → Says U' (supply used i) root (r ∷ []) → r.0 < no_end
      → AllFit U' below_root_least H (low_kid top_kid r) → AllFit U' below_root_least H (high_kid top_kid r)
      → Came U U' used H [] (low_kid top_kid r) (high_kid top_kid r) i (i + 1) (suc H) (kid (supply used i) 0 no_end)
  crown {r} {i} g p fa fb =
      let ks : kids_of U' (kid (supply used i) 0 no_end) ≡ low_kid top_kid r ∷ high_kid top_kid r ∷ [] = rw (g.links, g.holds) in
      record {
        made = 1;
        total = refl;
        fit = (says_fits g (omega arith) (omega arith) (rise_more (omega arith) p rise_none), rw ks (fa, (fb, tt)));
        leaves_are = rw (ks, append-nil, append-nil);
        nums_are = λ j. rw (ks, occ_append j, append-nil) (omega arith);
      }

  -- a level that r goes up into
  module _ {h : ℕ} {c : Kid} {l : Level} (ls : List Level) (r : Record) (i : ℕ) (x : Holds U (least ls) h c l)
      (o : On U U' (beside U h (l ∷ ls))) (p : c.from < r.0) (p' : r.0 < c.upto)
      (fa : AllFit U' below_root_least h (low_kid c r)) (fb : AllFit U' below_root_least h (high_kid c r)) where
    abbrev k : ℕ
    k = l.node.number

    abbrev lo : ℕ
    lo = l.node.from

    abbrev hi : ℕ
    hi = l.node.upto

    abbrev all : List Record
    all = eight (U k) r

    abbrev two : List Kid
    two = lefts_of U l ++ (low_kid c r ∷ high_kid c r ∷ rights_of U l)

    node : Node (least ls) lo hi (U k)
    node = fits_says (least ls) lo hi (U k) x.fit

    p₁ : last_key lo l.left < r.0
    p₁ = rw x.here at p

    p₂ : r.0 < first_key hi l.right
    p₂ = rw x.here at p'

    all_rises : Rise lo (keys all) hi
    all_rises = gap_rises (U k) r l.left l.right x.parts node.rises p₁ p₂

    all_kids : kids_from (U k).link lo hi all ≡ two
    all_kids = gap_kids (U k) r l.left l.right x.parts node.rises p₁ p₂ (U k).link ∙ rw x.here

    all_length : length all ≡ suc (length (U k).named)
    all_length = eight_more (U k) r ∙ omega (arith, sized k)

    two_fit : Each (AllFit U' below_root_least h) two
    two_fit = more_fit U U' ls (low_kid c r) (high_kid c r) x o fa fb

    -- it has room
    take_in : length (U k).named < entries → Says U' k (U k).link all → On U U' (above ls) → Around U H top_kid (suc h) l.node ls
        → Came U U' used h (l ∷ ls) (low_kid c r) (high_kid c r) i i H top_kid
    take_in room s o' y =
        let rest : On U U' (beside U (suc h) ls) = on_rest U U' h l ls o in
        let alike : SameAround U U' (suc h) ls = same_around U U' (suc h) ls o' rest in
        let up : Around U' H top_kid (suc h) l.node ls = around_same U U' o' rest y in
        let ks : kids_of U' l.node ≡ two = rw (s.links, s.holds) all_kids in
        let fit : fits (least ls) l.node (U' k) ≡ true =
        says_fits s (omega (arith, all_length, node.low)) (omega (arith, all_length)) all_rises in
        record {
          made = 0;
          total = omega arith;
          fit = around_fit up (fit, rw ks two_fit);
          leaves_are = around_leaves up
              ∙ rw (alike.left_is, alike.right_is, ks, more_leaves U U' ls (low_kid c r) (high_kid c r) x o) (simp append_assoc);
          nums_are = λ j. around_nums j up
              ∙ rw (alike.beside_is, ks) (omega (arith, more_nums U U' ls (low_kid c r) (high_kid c r) x o j));
        }

    -- it is full
    module _ (full : length (U k).named ≡ entries) (s : Says U' k (U k).link (lower_four (U k) r))
        (t : Says U' (supply used i) (fifth (U k) r).1 (upper_three (U k) r)) where
      abbrev e : Record
      e = ((fifth (U k) r).0, supply used i)

      parts : Eight lo hi (U k) r
      parts = eight_parts (U k) r (omega (arith, all_length)) all_rises

      kids_two : kids_of U' (low_kid l.node e) ++ kids_of U' (high_kid l.node e) ≡ two
      kids_two = rw (s.links, s.holds, t.links, t.holds) (sym (parts.kids (U k).link) ∙ all_kids)

      half_fit : Each (AllFit U' below_root_least h) (kids_of U' (low_kid l.node e) ++ kids_of U' (high_kid l.node e))
      half_fit = rw kids_two two_fit

      low_fit : AllFit U' below_root_least (suc h) (low_kid l.node e)
      low_fit = (
        says_fits s (omega (arith, parts.four)) (omega (arith, parts.four)) parts.cut.left,
        each_left (AllFit U' below_root_least h) (kids_of U' (low_kid l.node e)) (kids_of U' (high_kid l.node e)) half_fit,
      )

      high_fit : AllFit U' below_root_least (suc h) (high_kid l.node e)
      high_fit = (
        says_fits t (omega (arith, parts.three)) (omega (arith, parts.three)) (rise_from parts.cut.right),
        each_right (AllFit U' below_root_least h) (kids_of U' (low_kid l.node e)) (kids_of U' (high_kid l.node e)) half_fit,
      )

      two_leaves : leaves U' (suc h) (low_kid l.node e) ++ leaves U' (suc h) (high_kid l.node e) ≡ gather (leaves U' h) two
      two_leaves = rw (← gather_append, kids_two)

      two_nums : (j : ℕ) → occ j (nums U' (suc h) (low_kid l.node e)) + occ j (nums U' (suc h) (high_kid l.node e))
          ≡ one j k + one j (supply used i) + occ j (gather (nums U' h) two)
      two_nums j = rw (← kids_two, gather_append, occ_append) (omega arith)

      halve : {d H' : ℕ} {r' : Kid} → Came U U' used (suc h) ls (low_kid l.node e) (high_kid l.node e) (i + 1) d H' r'
          → Came U U' used h (l ∷ ls) (low_kid c r) (high_kid c r) i d H' r'
      halve g =
          let n : supply used (i + 1) ≡ supply used i + 1 = omega arith in
          record {
            made = suc g.made;
            total = omega (arith, g.total);
            fit = g.fit;
            leaves_are = g.leaves_are
                ∙ rw (two_leaves, more_leaves U U' ls (low_kid c r) (high_kid c r) x o) (simp append_assoc);
            nums_are = λ j. g.nums_are j
                ∙ rw n (omega (arith, two_nums j, more_nums U U' ls (low_kid c r) (high_kid c r) x o j));
          }

  pub rise_law : {h i d root' H' : ℕ} {c : Kid} {ls : List Level} (r : Record) → Around U H top_kid h c ls
      → Grown U U' used root H (above ls) r i d root' H' → On U U' (beside U h ls) → c.from < r.0 → r.0 < c.upto
      → AllFit U' below_root_least h (low_kid c r) → AllFit U' below_root_least h (high_kid c r)
      → Came U U' used h ls (low_kid c r) (high_kid c r) i d H' (kid root' 0 no_end)
  rise_law r top (crowned g) o p p' fa fb = crown g p' fa fb
  rise_law {i = i} r (under {ls = ls} x y) (took room s o') o p p' fa fb = take_in ls r i x o p p' fa fb room s o' y
  rise_law {h} {i} r (under {l = l} {ls = ls} x y) (halved full s t g) o p p' fa fb =
      let w = parts ls r i x o p p' fa fb full s t in
      halve ls r i x o p p' fa fb full s t
      (rise_law ((fifth (U l.node.number) r).0, supply used i) y g (on_rest U U' h l ls o)
      (omega (arith, w.cut.over, w.four)) w.cut.under (low_fit ls r i x o p p' fa fb full s t)
      (high_fit ls r i x o p p' fa fb full s t))
