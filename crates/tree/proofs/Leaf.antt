-- One leaf changed: the tree is whole as before, and the records change only there.
use Prim.Native.Nat.{ℕ, ◌≤◌}
use mathlib.Core.Path.{◌≡◌, ◌∙◌}
use mathlib.Core.List.{List, [], ◌∷◌, ◌++◌}
use mathlib.Core.Bool.{true}
use native.Mathlib.Omega.{arith}
use Rattle.node.specs.View.{no_end}
use Rattle.tree.specs.Kids.{Kid, kid, fits, leaf_least}
use Rattle.tree.specs.Lists.{occ}
use Rattle.tree.specs.WellFormed.{Views, nums, leaves, Whole}
use Rattle.tree.specs.Map.{records_in}
use Rattle.tree.proofs.Lists.{gather_append, one_self}
use Rattle.tree.proofs.Frame.{On, records_same}
use Rattle.tree.proofs.Hole.{Level, above, Around, beside, leaves_left, leaves_right, SameAround, same_around, around_same}
use Rattle.tree.proofs.Hole.{around_nums, around_leaves, around_fit}
use Rattle.tree.proofs.Along.{along_nums, along_range, along_once, on_beside, on_left, on_right, along_linked}

-- views that agree off the leaf in the hole, which fits the same cover and has the same link
module _ {U U' : Views} {used H root : ℕ} {c : Kid} {ls : List Level} (w : Whole U used H root)
    (x : Around U H (kid root 0 no_end) 0 c ls) (off : (j : ℕ) → 1 ≤ j → j ≤ used → (j ≡ c.number → ⊥) → U' j ≡ U j)
    (fit : fits leaf_least c (U' c.number) ≡ true) (link : (U' c.number).link ≡ (U c.number).link) where
  abbrev r : Kid
  r = kid root 0 no_end

  not_leaf : (j : ℕ) → occ j (c.number ∷ []) ≡ 0 → j ≡ c.number → ⊥
  not_leaf j o e = let o' : occ c.number (c.number ∷ []) ≡ 0 = rw e at o in omega (arith, one_self c.number)

  beside_same : On U U' (beside U 0 ls)
  beside_same = on_beside w x (λ j p q o. off j p q (not_leaf j (omega arith)))

  above_same : On U U' (above ls)
  above_same j o =
      let i = along_range w x j (omega arith) in
      off j i.0 i.1 (not_leaf j (omega (arith, along_once w x j)))

  alike : SameAround U U' 0 ls
  alike = same_around U U' 0 ls above_same beside_same

  around : Around U' H r 0 c ls
  around = around_same U U' above_same beside_same x

  leaf_leaves : leaves U' H r ≡ leaves_left U 0 ls ++ (c.number ∷ leaves_right U 0 ls)
  leaf_leaves = around_leaves around ∙ rw (alike.left_is, alike.right_is)

  leaf_nums : (j : ℕ) → occ j (nums U' H r) ≡ occ j (nums U H r)
  leaf_nums j = around_nums j around ∙ rw alike.beside_is (omega (arith, along_nums w x j))

  pub leaf_whole : Whole U' used H root
  leaf_whole = record {
    fit = around_fit around fit;
    linked = rw leaf_leaves (along_linked w x U' beside_same [] (link, tt));
    once = λ j p q. leaf_nums j ∙ w.once j p q;
    only = λ j p. w.only j (omega (arith, leaf_nums j));
  }

  pub leaf_records : records_in U' (leaves U' H r)
      ≡ records_in U (leaves_left U 0 ls) ++ ((U' c.number).records ++ records_in U (leaves_right U 0 ls))
  leaf_records =
      rw (
        leaf_leaves,
        gather_append,
        records_same U U' (leaves_left U 0 ls) (on_left w x U' beside_same),
        records_same U U' (leaves_right U 0 ls) (on_right w x U' beside_same),
      )
