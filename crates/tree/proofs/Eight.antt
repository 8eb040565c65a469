-- The eight records of a full node and a new one: the lower four, the fifth and the upper three.
use Prim.Native.Nat.{ℕ, suc, ◌-◌, ◌<◌}
use mathlib.Core.Path.{◌≡◌, refl, sym, ◌∙◌, ap, subst}
use mathlib.Core.List.{List, [], ◌∷◌, ◌++◌}
use native.Mathlib.Omega.{arith}
use lib.ListN.{length, length-take, length-drop}
use lib.Seq.{split_at, take_at, drop_at}
use Rattle.node.specs.Lists.{insert}
use Rattle.node.specs.Slot.{entries}
use Rattle.node.specs.View.{Record, View, keys, rank}
use Rattle.node.proofs.Places.{length_insert}
use Rattle.tree.specs.Kids.{Kid, kid, kids_from}
use Rattle.tree.specs.Halves.{eight, lower, lower_four, fifth, upper_three}
use Rattle.tree.proofs.Keys.{Rise, rise_insert, RiseCut, rise_cut, last_key, first_key, last_over, first_under, below_gap}
use Rattle.tree.proofs.Keys.{has_gap}
use Rattle.tree.proofs.Hole.{lefts, rights, last_child, kids_hole}

-- the children up to a record, and from it on
kids_cut : (leftmost lo hi : ℕ) (a : List Record) (e : Record) (b : List Record)
    → kids_from leftmost lo hi (a ++ (e ∷ b)) ≡ kids_from leftmost lo e.0 a ++ kids_from e.1 e.0 hi b
kids_cut leftmost lo hi [] e b = refl
kids_cut leftmost lo hi (x ∷ a) e b = ap (λ (cs : List Kid). kid leftmost lo x.0 ∷ cs) (kids_cut x.1 x.0 hi a e b)

pub record Eight (lo hi : ℕ) (u : View) (r : Record) : Type 0 where
  pub parts : eight u r ≡ lower_four u r ++ (fifth u r ∷ upper_three u r)
  pub four : length (lower_four u r) ≡ lower
  pub three : length (upper_three u r) ≡ entries - lower
  pub cut : RiseCut lo hi (lower_four u r) (fifth u r) (upper_three u r)
  pub kids : (leftmost : ℕ) → kids_from leftmost lo hi (eight u r)
      ≡ kids_from leftmost lo (fifth u r).0 (lower_four u r) ++ kids_from (fifth u r).1 (fifth u r).0 hi (upper_three u r)

pub eight_parts : {lo hi : ℕ} (u : View) (r : Record) → length (eight u r) ≡ 8 → Rise lo (keys (eight u r)) hi → Eight lo hi u r
eight_parts {lo} {hi} u r n rise =
    let parts : eight u r ≡ lower_four u r ++ (fifth u r ∷ upper_three u r) = split_at (eight u r) lower (0, 0) (omega arith) in
    record {
      parts = parts;
      four = rw length-take (omega arith);
      three = rw length-drop (omega arith);
      cut = rise_cut (lower_four u r) (fifth u r) (upper_three u r) (subst (λ (rs : List Record). Rise lo (keys rs) hi) parts rise);
      kids = λ f. ap (kids_from f lo hi) parts ∙ kids_cut f lo hi (lower_four u r) (fifth u r) (upper_three u r);
    }

-- a record put into a gap between a and b
inserted : (r : Record) (rs a b : List Record) (i : ℕ) → rs ≡ a ++ b → i ≡ length a → insert i r rs ≡ a ++ (r ∷ b)
inserted r rs a b i e e' = rw (e, take_at a b i (sym e'), drop_at a b i (sym e'))

module _ {lo hi : ℕ} (u : View) (r : Record) (a b : List Record) (parts : u.records ≡ a ++ b) (rise : Rise lo (keys u.records) hi)
    (p : last_key lo a < r.0) (p' : r.0 < first_key hi b) where
  rise' : Rise lo (keys (a ++ b)) hi
  rise' = rw parts at rise

  gap_is : eight u r ≡ a ++ (r ∷ b)
  gap_is = inserted r u.records a b (rank u r.0) parts (rw parts (below_gap r.0 a b rise' p p'))

  pub gap_rises : Rise lo (keys (eight u r)) hi
  gap_rises =
      rise_insert r u.records rise (omega (arith, last_over a b rise')) (omega (arith, first_under a b rise'))
      (rw parts (has_gap r.0 a b rise' p p'))

  -- the child in the gap becomes two
  pub gap_kids : (leftmost : ℕ) → kids_from leftmost lo hi (eight u r)
      ≡ lefts leftmost lo a ++ (kid (last_child leftmost a) (last_key lo a) r.0 ∷ kid r.1 r.0 (first_key hi b) ∷ rights hi b)
  gap_kids leftmost =
      ap (kids_from leftmost lo hi) gap_is ∙ kids_hole leftmost lo hi a (r ∷ b)
      ∙ ap (λ (cs : List Kid). lefts leftmost lo a ++ (kid (last_child leftmost a) (last_key lo a) r.0 ∷ cs)) (first b)
    where
      first : (b : List Record) → kids_from r.1 r.0 hi b ≡ kid r.1 r.0 (first_key hi b) ∷ rights hi b
      first [] = refl
      first (e ∷ b) = refl

pub eight_more : (u : View) (r : Record) → length (eight u r) ≡ suc (length u.records)
eight_more u r = length_insert (rank u r.0) r u.records
