-- The spot: the two laws by which it is used, and for its code the start, one turn and the end of the loop that looks for it.
use mathlib.Core.Path.{◌≡◌, ◌∙◌, ap, sym, refl}
use mathlib.Core.List.{List, [], ◌∷◌}
use mathlib.Core.Logic.{⊎_elim}
use mathlib.Core.Bool.{Bool, true, false, ◌||◌}
use Prim.Native.Nat.{ℕ, zero, suc, ◌+◌, ◌-◌, ◌≤◌, ◌<◌}
use native.Mathlib.Nat.{eq-or-lt_of_le}
use native.Mathlib.Omega.{arith}
use borrow.Author.Tests.{eqb-true}
use lib.Dec.{eqb}
use lib.ListN.{length}
use Rattle.std.specs.Prelude.{if◌then◌else◌}
use Rattle.words.proofs.Turns.{turn, over}
use Rattle.node.specs.Lists.{has, lowest_from}
use Rattle.node.specs.Slot.{entries, spot}

-- where the loop starts
pub spot_from : (ns : List ℕ) → spot ns ≡ lowest_from 0 entries ns
unfolding spot
spot_from ns = refl

module _ (n i : ℕ) (ns : List ℕ) where
  pub lowest_here : i < n → has i ns ≡ false → lowest_from i (n - i) ns ≡ i
  unfolding lowest_from
  lowest_here h e = rw (turn n i h, e)

  pub lowest_on : i < n → has i ns ≡ true → lowest_from i (n - i) ns ≡ lowest_from (i + 1) (n - (i + 1)) ns
  unfolding lowest_from
  lowest_on h e = rw (turn n i h, e)

  pub lowest_end : n ≤ i → lowest_from i (n - i) ns ≡ i
  unfolding lowest_from
  lowest_end h = rw (over n i h)

lowest_le : (i n : ℕ) (ns : List ℕ) → lowest_from i n ns ≤ i + n
unfolding lowest_from
lowest_le i zero ns = omega arith
lowest_le i (suc n) ns = go (has i ns) (lowest_le (i + 1) n ns)
  where
    go : {r : ℕ} (b : Bool) → r ≤ i + 1 + n → (if b then r else i) ≤ i + suc n
    go true h = omega arith
    go false h = omega arith

-- what is found is not in the list
lowest_free : (i n : ℕ) (ns : List ℕ) → lowest_from i n ns < i + n → has (lowest_from i n ns) ns ≡ false
unfolding lowest_from
lowest_free i zero ns h = absurd (omega arith)
lowest_free i (suc n) ns h = go (has i ns) refl (λ l. lowest_free (i + 1) n ns l) h
  where
    go : {r : ℕ} (b : Bool) → has i ns ≡ b → (r < i + 1 + n → has r ns ≡ false) → (if b then r else i) < i + suc n
        → has (if b then r else i) ns ≡ false
    go true e f l = f (omega arith)
    go false e f l = e

-- where none is found, all are in the list
all_in : (i n : ℕ) (ns : List ℕ) → lowest_from i n ns ≡ i + n → (x : ℕ) → i ≤ x → x < i + n → has x ns ≡ true
unfolding lowest_from
all_in i zero ns e x lo hi = absurd (omega arith)
all_in i (suc n) ns e x lo hi = go (has i ns) refl (λ r l. all_in (i + 1) n ns r x l (omega arith)) e
  where
    go : {r : ℕ} (b : Bool) → has i ns ≡ b → (r ≡ i + 1 + n → i + 1 ≤ x → has x ns ≡ true) → (if b then r else i) ≡ i + suc n
        → has x ns ≡ true
    go true t f q = ⊎_elim (λ (s : i ≡ x). rw (← s) t) (λ l. f (omega arith) (omega arith)) (eq-or-lt_of_le lo)
    go false t f q = absurd (omega arith)

-- the list without the first x
without : ℕ → List ℕ → List ℕ
without x [] = []
without x (y ∷ ys) = if eqb x y then ys else (y ∷ without x ys)

without_length : (x : ℕ) (ys : List ℕ) → has x ys ≡ true → length ys ≡ suc (length (without x ys))
unfolding has without
without_length x [] h = cc
without_length x (y ∷ ys) h = go (without x ys) (has x ys) (eqb x y) h (without_length x ys)
  where
    go : (zs : List ℕ) (t b : Bool) → (b || t) ≡ true → (t ≡ true → length ys ≡ suc (length zs))
        → suc (length ys) ≡ suc (length (if b then ys else (y ∷ zs)))
    go zs t true e f = refl
    go zs t false e f = ap suc (f e)

without_has : (x z : ℕ) (ys : List ℕ) → (z ≡ x → ⊥) → has z ys ≡ true → has z (without x ys) ≡ true
unfolding has without
without_has x z [] ne h = h
without_has x z (y ∷ ys) ne h = go (without_has x z ys ne) (eqb x y) refl (eqb z y) refl h
  where
    go : (has z ys ≡ true → has z (without x ys) ≡ true) → (b : Bool) → eqb x y ≡ b → (t : Bool) → eqb z y ≡ t → (t || has z ys) ≡ true
        → has z (if b then ys else (y ∷ without x ys)) ≡ true
    go f true e true u h = absurd (ne (eqb-true z y u ∙ sym (eqb-true x y e)))
    go f true e false u h = h
    go f false e true u h = rw (u)
    go f false e false u h = rw (u) (f h)

-- a list that has all numbers below n is at least n long
crowded : (n : ℕ) (ns : List ℕ) → ((x : ℕ) → x < n → has x ns ≡ true) → n ≤ length ns
crowded zero ns f = omega arith
crowded (suc n) ns f =
    let l : length ns ≡ suc (length (without n ns)) = without_length n ns (f n (omega arith)) in
    let r : n ≤ length (without n ns) = crowded n (without n ns) (λ x h. without_has n x ns (λ e. omega arith) (f x (omega arith))) in
    omega arith

-- so a list of fewer leaves one over
lowest_below : (n : ℕ) (ns : List ℕ) → length ns < n → lowest_from 0 n ns < n
lowest_below n ns h =
    let le : lowest_from 0 n ns ≤ n = omega (arith, lowest_le 0 n ns) in
    ⊎_elim
    (λ (e : lowest_from 0 n ns ≡ n).
    let c : n ≤ length ns = crowded n ns (λ x l. all_in 0 n ns (omega arith) x (omega arith) (omega arith)) in absurd (omega arith))
    (λ (l : lowest_from 0 n ns < n). l)
    (eq-or-lt_of_le le)

lowest_new : (n : ℕ) (ns : List ℕ) → length ns < n → has (lowest_from 0 n ns) ns ≡ false
lowest_new n ns h = lowest_free 0 n ns (omega (arith, lowest_below n ns h))

-- the two laws: all that is asked of the spot outside of this crate
pub spot_below : (ns : List ℕ) → length ns < entries → spot ns < entries
spot_below ns h = rw (spot_from ns) (lowest_below entries ns h)

pub spot_unused : (ns : List ℕ) → length ns < entries → has (spot ns) ns ≡ false
spot_unused ns h = rw (spot_from ns) (lowest_new entries ns h)
