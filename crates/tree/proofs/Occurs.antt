-- How often numbers occur: in a run of numbers, and together. A list that has each of a run once is as long as the run.
use Prim.Native.Nat.{ℕ, zero, suc, ◌+◌, ◌≤◌, ◌<◌}
use mathlib.Core.Path.{◌≡◌, refl, sym, ◌∙◌}
use mathlib.Core.Logic.{◌⊎◌, inl, inr}
use mathlib.Core.List.{List, [], ◌∷◌}
use mathlib.Core.Bool.{Bool, true, false}
use native.Mathlib.Omega.{arith}
use native.Mathlib.Decide.{dec_le}
use lib.Dec.{eqb}
use lib.ListN.{length}
use borrow.Author.Tests.{eqb-true, eqb-false}
use Rattle.words.specs.Lists.{count_from}
use Rattle.words.proofs.Lists.{length_from}
use Rattle.node.specs.View.{no_end}
use Rattle.tree.specs.Kids.{kid}
use Rattle.tree.specs.Lists.{one, occ}
use Rattle.tree.specs.WellFormed.{Views, nums, Whole}
use Rattle.tree.proofs.Lists.{one_self, one_other, one_says}

-- the numbers from i on, n of them
pub from_out : (j i n : ℕ) → (j < i) ⊎ (i + n ≤ j) → occ j (count_from i n) ≡ 0
from_out j i zero h = refl
from_out j i (suc n) (inl h) = omega (arith, one_other j i (omega arith), from_out j (i + 1) n (inl (omega arith)))
from_out j i (suc n) (inr h) = omega (arith, one_other j i (omega arith), from_out j (i + 1) n (inr (omega arith)))

pub from_in : (j i n : ℕ) → i ≤ j → j < i + n → occ j (count_from i n) ≡ 1
from_in j i zero h k = absurd (omega arith)
from_in j i (suc n) h k = go (λ p. from_in j (i + 1) n p (omega arith)) (dec_le (i + 1) j)
  where
    go : (i + 1 ≤ j → occ j (count_from (i + 1) n) ≡ 1) → Dec (i + 1 ≤ j) → occ j (count_from i (suc n)) ≡ 1
    go f (yes p) = omega (arith, one_other j i (omega arith), f p)
    go f (no p) =
        let e : j ≡ i = omega arith in
        let o : one j i ≡ 1 = rw e (one_self i) in
        omega (arith, from_out j (i + 1) n (inl (omega arith)))

from_range : (j i n : ℕ) → 1 ≤ occ j (count_from i n) → (i ≤ j) × (j < i + n)
from_range j i n h = go (dec_le i j) (dec_le (i + n) j)
  where
    go : Dec (i ≤ j) → Dec (i + n ≤ j) → (i ≤ j) × (j < i + n)
    go (yes p) (no q) = (p, omega arith)
    go (yes p) (yes q) = absurd (omega (arith, from_out j i n (inr q)))
    go (no p) q = absurd (omega (arith, from_out j i n (inl (omega arith))))

-- how often the numbers js occur, together
abbrev pub total : List ℕ → List ℕ → ℕ
total [] l = 0
total (j ∷ js) l = occ j l + total js l

one_sym : (j x : ℕ) → one j x ≡ one x j
one_sym j x = go (eqb j x) refl
  where
    go : (b : Bool) → eqb j x ≡ b → one j x ≡ one x j
    go true e = let p : j ≡ x = eqb-true j x e in rw p
    go false e = one_other j x (eqb-false j x e) ∙ sym (one_other x j (λ q. eqb-false j x e (sym q)))

total_none : (js : List ℕ) → total js [] ≡ 0
total_none [] = refl
total_none (j ∷ js) = omega (arith, total_none js)

total_more : (js : List ℕ) (x : ℕ) (l : List ℕ) → total js (x ∷ l) ≡ occ x js + total js l
total_more [] x l = omega arith
total_more (j ∷ js) x l = omega (arith, total_more js x l, one_sym j x)

-- each of l is one of js
pub total_all : (js l : List ℕ) → ((x : ℕ) → 1 ≤ occ x l → occ x js ≡ 1) → total js l ≡ length l
total_all js [] h = total_none js
total_all js (x ∷ l) h =
    total_more js x l ∙ omega (arith, h x (omega (arith, one_self x)), total_all js l (λ y k. h y (omega arith)))

-- each of js is one of l
total_ones : (js l : List ℕ) → ((x : ℕ) → 1 ≤ occ x js → occ x l ≡ 1) → total js l ≡ length js
total_ones [] l h = refl
total_ones (j ∷ js) l h = omega (arith, h j (omega (arith, one_self j)), total_ones js l (λ y k. h y (omega arith)))

-- none twice
pub total_most : (js l : List ℕ) → ((j : ℕ) → occ j l ≤ 1) → total js l ≤ length js
total_most [] l h = omega arith
total_most (j ∷ js) l h = omega (arith, h j, total_most js l h)

-- as many as there can be, none twice: each is there
pub total_each : (js l : List ℕ) → ((j : ℕ) → occ j l ≤ 1) → length js ≤ total js l → (j : ℕ) → 1 ≤ occ j js → occ j l ≡ 1
total_each [] l h e j o = absurd (omega arith)
total_each (i ∷ js) l h e j o = go (total_each js l h (omega (arith, h i)) j) (dec_le 1 (one j i))
  where
    go : (1 ≤ occ j js → occ j l ≡ 1) → Dec (1 ≤ one j i) → occ j l ≡ 1
    go f (yes q) = let p : j ≡ i = one_says j i q in rw p (omega (arith, h i, total_most js l h))
    go f (no q) = f (omega arith)

-- a whole tree has as many nodes as are used
pub whole_size : {U : Views} {used h root : ℕ} → Whole U used h root → length (nums U h (kid root 0 no_end)) ≡ used
whole_size {U} {used} {h} {root} w =
    let l : List ℕ = nums U h (kid root 0 no_end) in
    sym (total_all (count_from 1 used) l (λ x o. let i = w.only x o in from_in x 1 used i.0 (omega (arith, i.1))))
    ∙ total_ones (count_from 1 used) l (λ x o. let i = from_range x 1 used o in w.once x i.0 (omega (arith, i.1)))
    ∙ length_from 1 used
