-- A test of every number of a list, under numbers put in, taken out and cut off; all-below and covered are such tests.
use mathlib.Core.Path.{◌≡◌, ap, refl}
use mathlib.Core.List.{List, [], ◌∷◌}
use mathlib.Core.Bool.{Bool, true, false, not, ◌&&◌, ◌||◌, false≢true}
use Prim.Native.Nat.{ℕ, zero, suc, ◌≤◌, ◌<◌}
use native.Mathlib.Nat.{le_trans, lt_of_lt_of_le}
use native.Mathlib.Omega.{arith}
use borrow.Author.Tests.{eqb-true, ltb-true, leb-true, lt-ltb, le-leb}
use lib.Dec.{ltb, leb, eqb}
use lib.ListN.{length, get_or, take}
use Rattle.node.specs.Lists.{insert, remove, has, all_below, covered}
use Rattle.words.proofs.Tests.{both}

unfoldable pub every : (ℕ → Bool) → List ℕ → Bool
every p [] = true
every p (x ∷ xs) = p x && every p xs

pub below_every : (b : ℕ) (xs : List ℕ) → all_below b xs ≡ every (λ x. ltb x b) xs
unfolding all_below every
below_every b [] = refl
below_every b (x ∷ xs) = ap (λ (t : Bool). ltb x b && t) (below_every b xs)

pub covered_every : (lo hi : ℕ) (xs : List ℕ) → covered lo hi xs ≡ every (λ x. leb lo x && ltb x hi) xs
unfolding covered every
covered_every lo hi [] = refl
covered_every lo hi (x ∷ xs) = ap (λ (t : Bool). leb lo x && ltb x hi && t) (covered_every lo hi xs)

pub has_every : (x : ℕ) (xs : List ℕ) → has x xs ≡ not (every (λ y. not (eqb x y)) xs)
unfolding has every
has_every x [] = refl
has_every x (y ∷ ys) = rw (has_every x ys) (go (eqb x y) (every (λ y. not (eqb x y)) ys))
  where
    go : (a b : Bool) → (a || not b) ≡ not (not a && b)
    go true b = refl
    go false b = refl

module _ (p : ℕ → Bool) where
  pub every_cons : (x : ℕ) (xs : List ℕ) → every p (x ∷ xs) ≡ true → (p x ≡ true) × (every p xs ≡ true)
  unfolding every
  every_cons x xs t = both {a = p x} {b = every p xs} t

  pub every_insert : (i x : ℕ) (xs : List ℕ) → every p (insert i x xs) ≡ (p x && every p xs)
  unfolding every
  every_insert zero x xs = refl
  every_insert (suc i) x [] = refl
  every_insert (suc i) x (y ∷ ys) = rw (every_insert i x ys) (go (p y) (p x) (every p ys))
    where
      go : (a b c : Bool) → (a && (b && c)) ≡ (b && (a && c))
      go true b c = refl
      go false true c = refl
      go false false c = refl

  pub every_remove : (i : ℕ) (xs : List ℕ) → every p xs ≡ true → every p (remove i xs) ≡ true
  unfolding every
  every_remove zero [] t = refl
  every_remove (suc i) [] t = refl
  every_remove zero (y ∷ ys) t = (every_cons y ys t).1
  every_remove (suc i) (y ∷ ys) t = rw ((every_cons y ys t).0, every_remove i ys (every_cons y ys t).1)

  pub every_take : (i : ℕ) (xs : List ℕ) → every p xs ≡ true → every p (take i xs) ≡ true
  unfolding every
  every_take zero xs t = refl
  every_take (suc i) [] t = refl
  every_take (suc i) (y ∷ ys) t = rw ((every_cons y ys t).0, every_take i ys (every_cons y ys t).1)

  pub every_at : (i : ℕ) (xs : List ℕ) → every p xs ≡ true → i < length xs → p (get_or xs i 0) ≡ true
  unfolding every
  every_at i [] t h = absurd (omega arith)
  every_at zero (y ∷ ys) t h = (every_cons y ys t).0
  every_at (suc i) (y ∷ ys) t h = every_at i ys (every_cons y ys t).1 (omega arith)

  -- what holds of every one holds of each that the list has
  pub every_has : (x : ℕ) (xs : List ℕ) → every p xs ≡ true → has x xs ≡ true → p x ≡ true
  unfolding every has
  every_has x [] t h = absurd (false≢true h)
  every_has x (y ∷ ys) t h = go (eqb x y) refl (every_has x ys (every_cons y ys t).1) h
    where
      go : (b : Bool) → eqb x y ≡ b → (has x ys ≡ true → p x ≡ true) → (b || has x ys) ≡ true → p x ≡ true
      go true e f h = rw (eqb-true x y e) (every_cons y ys t).0
      go false e f h = f h

-- a test that follows from another
pub every_weaker : (p q : ℕ → Bool) → ((x : ℕ) → p x ≡ true → q x ≡ true) → (xs : List ℕ) → every p xs ≡ true → every q xs ≡ true
unfolding every
every_weaker p q f [] t = refl
every_weaker p q f (x ∷ xs) t =
    let u = every_cons p x xs t in
    rw (f x u.0, every_weaker p q f xs u.1)

pub below_more : (b c : ℕ) (xs : List ℕ) → b ≤ c → all_below b xs ≡ true → all_below c xs ≡ true
below_more b c xs h t =
    rw (below_every c xs) (every_weaker (λ x. ltb x b) (λ x. ltb x c)
    (λ x e. let l = ltb-true x b e in lt-ltb x c (lt_of_lt_of_le l h)) xs (rw (below_every b xs) at t))

pub covered_more : (lo hi lo' hi' : ℕ) (xs : List ℕ) → lo' ≤ lo → hi ≤ hi' → covered lo hi xs ≡ true → covered lo' hi' xs ≡ true
covered_more lo hi lo' hi' xs h k t =
    rw (covered_every lo' hi' xs) (every_weaker (λ x. leb lo x && ltb x hi) (λ x. leb lo' x && ltb x hi') wider xs
    (rw (covered_every lo hi xs) at t))
  where
    wider : (x : ℕ) → (leb lo x && ltb x hi) ≡ true → (leb lo' x && ltb x hi') ≡ true
    wider x e =
        let u = both {a = leb lo x} {b = ltb x hi} e in
        rw (le-leb lo' x (le_trans h (leb-true lo x u.0)), lt-ltb x hi' (lt_of_lt_of_le (ltb-true x hi u.1) k))

module _ (b : ℕ) (i : ℕ) where
  pub below_insert : (x : ℕ) (xs : List ℕ) → all_below b (insert i x xs) ≡ (ltb x b && all_below b xs)
  below_insert x xs = rw (below_every b (insert i x xs), below_every b xs) (every_insert (λ x. ltb x b) i x xs)

  pub below_remove : (xs : List ℕ) → all_below b xs ≡ true → all_below b (remove i xs) ≡ true
  below_remove xs t = rw (below_every b (remove i xs)) (every_remove (λ x. ltb x b) i xs (rw (below_every b xs) at t))

  pub below_take : (xs : List ℕ) → all_below b xs ≡ true → all_below b (take i xs) ≡ true
  below_take xs t = rw (below_every b (take i xs)) (every_take (λ x. ltb x b) i xs (rw (below_every b xs) at t))

  pub below_at : (xs : List ℕ) → all_below b xs ≡ true → i < length xs → get_or xs i 0 < b
  below_at xs t h = ltb-true (get_or xs i 0) b (every_at (λ x. ltb x b) i xs (rw (below_every b xs) at t) h)
