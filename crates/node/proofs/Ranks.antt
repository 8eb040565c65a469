-- Rising lists, and the rank of a number in one.
use mathlib.Core.Path.{◌≡◌, ◌∙◌, ap, sym, refl}
use mathlib.Core.List.{List, [], ◌∷◌, map}
use mathlib.Core.Bool.{Bool, true, false, not, ◌&&◌, ◌||◌, and-false, false≢true}
use Prim.Native.Nat.{ℕ, zero, suc, ◌+◌, ◌≤◌, ◌<◌}
use native.Mathlib.Nat.{lt_trans}
use native.Mathlib.Omega.{arith}
use borrow.Author.Tests.{ltb-true, ltb-false, lt-ltb, le-ltb, eq-eqb, ne_eqb, eqb-true, eqb-false}
use lib.Dec.{ltb, eqb}
use lib.ListN.{length, get_or}
use mir.Val.{bool_byte}
use Rattle.std.specs.Prelude.{if◌then◌else◌}
use Rattle.node.specs.Lists.{has, different, rising, below, upto}
use Rattle.words.proofs.Tests.{both}
use Rattle.node.proofs.Every.{every, every_weaker, every_has}
use Rattle.node.proofs.Sets.{has_at, has_map}

-- the first of a rising list is less than each of the others
every_more : (x y : ℕ) (ys : List ℕ) → x < y → every (λ z. ltb y z) ys ≡ true → every (λ z. ltb x z) ys ≡ true
every_more x y ys h t =
    every_weaker (λ z. ltb y z) (λ z. ltb x z) (λ z e. lt-ltb x z (lt_trans h (ltb-true y z e))) ys t

pub rising_cons : (x : ℕ) (xs : List ℕ) → rising (x ∷ xs) ≡ true → (every (λ y. ltb x y) xs ≡ true) × (rising xs ≡ true)
unfolding rising every
rising_cons x [] t = (refl, refl)
rising_cons x (y ∷ ys) t =
    let p = both {a = ltb x y} {b = rising (y ∷ ys)} t in
    (rw p.0 (every_more x y ys (ltb-true x y p.0) (rising_cons y ys p.1).0), p.1)

pub below_length : (x : ℕ) (xs : List ℕ) → below x xs ≤ length xs
unfolding below
below_length x [] = omega arith
below_length x (y ∷ ys) = go (ltb y x) (below_length x ys)
  where
    go : (b : Bool) → below x ys ≤ length ys → (if b then suc (below x ys) else 0) ≤ suc (length ys)
    go true h = omega arith
    go false h = omega arith

-- those before the rank are less
pub before_rank : (x i : ℕ) (xs : List ℕ) → i < below x xs → get_or xs i 0 < x
unfolding below
before_rank x i [] h = absurd (omega arith)
before_rank x zero (y ∷ ys) h = go (ltb y x) refl h
  where
    go : (b : Bool) → ltb y x ≡ b → 0 < (if b then suc (below x ys) else 0) → y < x
    go true u h = ltb-true y x u
    go false u h = absurd (omega arith)
before_rank x (suc i) (y ∷ ys) h = go (ltb y x) (before_rank x i ys) h
  where
    go : (b : Bool) → (i < below x ys → get_or ys i 0 < x) → suc i < (if b then suc (below x ys) else 0) → get_or ys i 0 < x
    go true f h = f (omega arith)
    go false f h = absurd (omega arith)

-- a number that a rising list has stands at its rank
pub found_at : (x : ℕ) (xs : List ℕ) → rising xs ≡ true → has x xs ≡ true → (below x xs < length xs) × (get_or xs (below x xs) 0 ≡ x)
unfolding below has
found_at x [] t h = absurd (false≢true h)
found_at x (y ∷ ys) t h = go (eqb x y) refl h (ltb y x) refl (λ h. found_at x ys (rising_cons y ys t).1 h)
  where
    go : (a : Bool) → eqb x y ≡ a → (a || has x ys) ≡ true → (b : Bool) → ltb y x ≡ b
        → (has x ys ≡ true → (below x ys < length ys) × (get_or ys (below x ys) 0 ≡ x))
        → ((if b then suc (below x ys) else 0) < suc (length ys)) × (get_or (y ∷ ys) (if b then suc (below x ys) else 0) 0 ≡ x)
    go true e h true u f =
        let p : y < x = ltb-true y x u in
        let q : x ≡ y = eqb-true x y e in
        absurd (omega arith)
    go true e h false u f = (omega arith, sym (eqb-true x y e))
    go false e h true u f = let r = f h in let p = r.0 in (omega arith, r.1)
    go false e h false u f =
        let p : x ≤ y = ltb-false y x u in
        let q : y < x = ltb-true y x (every_has (λ z. ltb y z) x ys (rising_cons y ys t).0 h) in
        absurd (omega arith)

-- a rising list has x where x stands at its rank, and nowhere else
pub has_at_rank : (x : ℕ) (xs : List ℕ) → rising xs ≡ true
    → has x xs ≡ (ltb (below x xs) (length xs) && eqb (get_or xs (below x xs) 0) x)
has_at_rank x xs t = go (has x xs) refl (ltb (below x xs) (length xs)) refl (eqb (get_or xs (below x xs) 0) x) refl
  where
    go : (a : Bool) → has x xs ≡ a → (b : Bool) → ltb (below x xs) (length xs) ≡ b → (c : Bool)
        → eqb (get_or xs (below x xs) 0) x ≡ c → a ≡ (b && c)
    go true h b u c v =
        let p = found_at x xs t h in
        sym (rw (← u, ← v, lt-ltb (below x xs) (length xs) p.0, eq-eqb (get_or xs (below x xs) 0) x p.1))
    go false h true u true v =
        sym h ∙ ap (λ (y : ℕ). has y xs) (sym (eqb-true (get_or xs (below x xs) 0) x v))
        ∙ has_at (below x xs) xs (ltb-true (below x xs) (length xs) u)
    go false h true u false v = refl
    go false h false u c v = refl

-- things whose numbers rise are all different
pub rising_different : (f : ℕ → ℕ) (ns : List ℕ) → rising (map f ns) ≡ true → different ns ≡ true
unfolding different
rising_different f [] t = refl
rising_different f (e ∷ es) t =
    let p = rising_cons (f e) (map f es) t in
    rw (rising_different f es p.1) (go (has e es) refl p.0)
  where
    go : (a : Bool) → has e es ≡ a → every (λ y. ltb (f e) y) (map f es) ≡ true → (not a && true) ≡ true
    go false h u = refl
    go true h u =
        let q : f e < f e = ltb-true (f e) (f e) (every_has (λ y. ltb (f e) y) (f e) (map f es) u (has_map f e es h)) in
        absurd (omega arith)

pub upto_length : (x : ℕ) (xs : List ℕ) → upto x xs ≤ length xs
unfolding upto
upto_length x [] = omega arith
upto_length x (y ∷ ys) = go (ltb x y) (upto_length x ys)
  where
    go : (b : Bool) → upto x ys ≤ length ys → (if b then 0 else suc (upto x ys)) ≤ suc (length ys)
    go true h = omega arith
    go false h = omega arith

-- where the first is above x, none is below it, and it is not there
none_below : (x : ℕ) (xs : List ℕ) → rising (x ∷ xs) ≡ true → (below x xs ≡ 0) × (has x xs ≡ false)
unfolding rising below
none_below x [] t = (refl, has_at_rank x [] refl)
none_below x (y ∷ ys) t =
    let p : (ltb x y ≡ true) × (rising (y ∷ ys) ≡ true) = both t in
    let h : x < y = ltb-true x y p.0 in
    let first : below x (y ∷ ys) ≡ 0 = rw (le-ltb y x (omega arith)) in
    (first, has_at_rank x (y ∷ ys) p.1 ∙ rw (first, ne_eqb y x (λ e. omega arith), and-false))

-- those not above x are those below it, and x itself if it is there
pub upto_is : (x : ℕ) (xs : List ℕ) → rising xs ≡ true → upto x xs ≡ below x xs + bool_byte (has x xs)
unfolding upto below has rising
upto_is x [] t = refl
upto_is x (y ∷ ys) t = go (ltb x y) refl (eqb x y) refl (upto_is x ys (rising_cons y ys t).1)
  where
    go : (b : Bool) → ltb x y ≡ b → (c : Bool) → eqb x y ≡ c → upto x ys ≡ below x ys + bool_byte (has x ys)
        → (if b then 0 else suc (upto x ys)) ≡ (if ltb y x then suc (below x ys) else 0) + bool_byte (c || has x ys)
    go true u c v i =
        let z = none_below x (y ∷ ys) (rw u t) in
        let h : (eqb x y || has x ys) ≡ false = z.1 in
        rw (le-ltb y x (omega (arith, ltb-true x y u)), ← v, h)
    go false u true v i =
        let same : x ≡ y = eqb-true x y v in
        let z = none_below y ys t in
        rw (le-ltb y x (omega arith)) (ap suc (i ∙ rw (same, z.0, z.1)))
    go false u false v i =
        rw (lt-ltb y x (omega (arith, ltb-false x y u, eqb-false x y v))) (omega (arith, i))

-- so x stands at the last of them, or after it
pub placed_none : (x : ℕ) (xs : List ℕ) → rising xs ≡ true → upto x xs ≡ 0 → (below x xs ≡ 0) × (has x xs ≡ false)
placed_none x xs t e = go (has x xs) refl
  where
    go : (b : Bool) → has x xs ≡ b → (below x xs ≡ 0) × (b ≡ false)
    go true h = let s : upto x xs ≡ below x xs + 1 = upto_is x xs t ∙ rw h in absurd (omega arith)
    go false h = let s : upto x xs ≡ below x xs + 0 = upto_is x xs t ∙ rw h in (omega arith, refl)

pub placed_last : (x : ℕ) (xs : List ℕ) → rising xs ≡ true → (a : ℕ) → upto x xs ≡ suc a
    → (has x xs ≡ eqb (get_or xs a 0) x) × (below x xs + bool_byte (has x xs) ≡ suc a)
placed_last x xs t a e = (go (has x xs) refl, sym (upto_is x xs t) ∙ e)
  where
    go : (b : Bool) → has x xs ≡ b → b ≡ eqb (get_or xs a 0) x
    go true h =
        let s : upto x xs ≡ below x xs + 1 = upto_is x xs t ∙ rw h in
        let same : below x xs ≡ a = omega arith in
        sym (eq-eqb (get_or xs a 0) x (rw same at (found_at x xs t h).1))
    go false h =
        let s : upto x xs ≡ below x xs + 0 = upto_is x xs t ∙ rw h in
        let less = before_rank x a xs (omega arith) in
        sym (ne_eqb (get_or xs a 0) x (λ q. omega arith))
