-- Lists whose numbers are all different, and what they have, under numbers put in, taken out and cut off.
use mathlib.Core.Path.{◌≡◌, ◌∙◌, ap, sym, refl}
use mathlib.Core.List.{List, [], ◌∷◌, map}
use mathlib.Core.Bool.{Bool, true, false, not, ◌&&◌, ◌||◌, or-true, false≢true}
use Prim.Native.Nat.{ℕ, zero, suc, ◌<◌}
use native.Mathlib.Omega.{arith}
use borrow.Author.Tests.{eqb-true, eq-eqb, not-true, not-false}
use lib.Dec.{eqb}
use lib.ListN.{length, get_or, take}
use Rattle.node.specs.Lists.{insert, remove, has, different}
use Rattle.words.proofs.Tests.{both, eqb_sym}
use Rattle.node.proofs.Tests.{neither}
use Rattle.node.proofs.Every.{every, has_every, every_remove, every_take}

pub has_at : (i : ℕ) (xs : List ℕ) → i < length xs → has (get_or xs i 0) xs ≡ true
unfolding has
has_at i [] h = absurd (omega arith)
has_at zero (y ∷ ys) h = rw (eq-eqb y y refl)
has_at (suc i) (y ∷ ys) h = rw (has_at i ys (omega arith)) (or-true (eqb (get_or ys i 0) y))

pub has_map : (f : ℕ → ℕ) (x : ℕ) (xs : List ℕ) → has x xs ≡ true → has (f x) (map f xs) ≡ true
unfolding has
has_map f x [] h = absurd (false≢true h)
has_map f x (y ∷ ys) h = go (eqb x y) refl h (has_map f x ys)
  where
    go : (a : Bool) → eqb x y ≡ a → (a || has x ys) ≡ true → (has x ys ≡ true → has (f x) (map f ys) ≡ true)
        → (eqb (f x) (f y) || has (f x) (map f ys)) ≡ true
    go true e h g = rw (eq-eqb (f x) (f y) (ap f (eqb-true x y e)))
    go false e h g = rw (g h) (or-true (eqb (f x) (f y)))

pub has_insert : (x i y : ℕ) (xs : List ℕ) → has x (insert i y xs) ≡ (eqb x y || has x xs)
unfolding has
has_insert x zero y xs = refl
has_insert x (suc i) y [] = refl
has_insert x (suc i) y (z ∷ zs) = rw (has_insert x i y zs) (go (eqb x z) (eqb x y) (has x zs))
  where
    go : (a b c : Bool) → (a || (b || c)) ≡ (b || (a || c))
    go true true c = refl
    go true false c = refl
    go false b c = refl

-- what a list has not, no part of it has
module _ (x : ℕ) where
  absent : (xs : List ℕ) → has x xs ≡ false → every (λ y. not (eqb x y)) xs ≡ true
  absent xs t = not-false (every (λ y. not (eqb x y)) xs) (sym (has_every x xs) ∙ t)

  absent_from : (xs : List ℕ) → every (λ y. not (eqb x y)) xs ≡ true → has x xs ≡ false
  absent_from xs t = has_every x xs ∙ ap not t

  pub has_not_remove : (i : ℕ) (xs : List ℕ) → has x xs ≡ false → has x (remove i xs) ≡ false
  has_not_remove i xs t = absent_from (remove i xs) (every_remove (λ y. not (eqb x y)) i xs (absent xs t))

  pub has_not_take : (i : ℕ) (xs : List ℕ) → has x xs ≡ false → has x (take i xs) ≡ false
  has_not_take i xs t = absent_from (take i xs) (every_take (λ y. not (eqb x y)) i xs (absent xs t))

pub different_cons : (x : ℕ) (xs : List ℕ) → different (x ∷ xs) ≡ true → (has x xs ≡ false) × (different xs ≡ true)
unfolding different
different_cons x xs t =
    let p = both {a = not (has x xs)} {b = different xs} t in
    (not-true (has x xs) p.0, p.1)

pub different_insert : (i x : ℕ) (xs : List ℕ) → different (insert i x xs) ≡ (not (has x xs) && different xs)
unfolding different has
different_insert zero x xs = refl
different_insert (suc i) x [] = refl
different_insert (suc i) x (y ∷ ys) =
    rw (has_insert y i x ys, different_insert i x ys, eqb_sym y x) (neither (eqb x y) (has y ys) (has x ys) (different ys))

pub different_remove : (i : ℕ) (xs : List ℕ) → different xs ≡ true → different (remove i xs) ≡ true
unfolding different
different_remove zero [] t = refl
different_remove (suc i) [] t = refl
different_remove zero (y ∷ ys) t = (different_cons y ys t).1
different_remove (suc i) (y ∷ ys) t =
    let p = different_cons y ys t in
    rw (has_not_remove y i ys p.0, different_remove i ys p.1)

pub different_take : (i : ℕ) (xs : List ℕ) → different xs ≡ true → different (take i xs) ≡ true
unfolding different
different_take zero xs t = refl
different_take (suc i) [] t = refl
different_take (suc i) (y ∷ ys) t =
    let p = different_cons y ys t in
    rw (has_not_take y i ys p.0, different_take i ys p.1)

pub has_remove : (x i : ℕ) (xs : List ℕ) → different xs ≡ true → i < length xs
    → has x (remove i xs) ≡ (has x xs && not (eqb x (get_or xs i 0)))
unfolding has
has_remove x i [] t h = absurd (omega arith)
has_remove x zero (y ∷ ys) t h = go (eqb x y) refl (has x ys) refl
  where
    go : (b : Bool) → eqb x y ≡ b → (s : Bool) → has x ys ≡ s → s ≡ ((b || s) && not b)
    go true e true u = sym (sym (different_cons y ys t).0 ∙ rw (← eqb-true x y e) u)
    go true e false u = refl
    go false e true u = refl
    go false e false u = refl
has_remove x (suc i) (y ∷ ys) t h =
    rw (has_remove x i ys (different_cons y ys t).1 (omega arith)) (go (eqb x y) refl (eqb x (get_or ys i 0)) refl (has x ys))
  where
    go : (a : Bool) → eqb x y ≡ a → (b : Bool) → eqb x (get_or ys i 0) ≡ b → (s : Bool) → (a || (s && not b)) ≡ ((a || s) && not b)
    go true e true u s =
        let same : y ≡ get_or ys i 0 = sym (eqb-true x y e) ∙ eqb-true x (get_or ys i 0) u in
        sym (sym (different_cons y ys t).0 ∙ rw same (has_at i ys (omega arith)))
    go true e false u s = refl
    go false e b u s = refl
