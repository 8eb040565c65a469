-- Tests that compute: taken apart, put together, and what they tell.
use Prim.Native.Nat.{ℕ, ◌≤◌}
use mathlib.Core.Path.{◌≡◌, refl, sym}
use mathlib.Core.Logic.{◌⊎◌, inr, ⊎_elim}
use mathlib.Core.Bool.{Bool, true, false, ◌&&◌}
use native.Mathlib.Omega.{arith}
use lib.Dec.{T, leb, eqb}
use borrow.Author.Tests.{leb-true, le-leb, eqb-true, eqb-false}
use Rattle.std.specs.Prelude.{if◌then◌else◌}
use Rattle.words.specs.Tests.{within}

-- both parts of a joined test pass
pub both : {a b : Bool} → (a && b) ≡ true → (a ≡ true) × (b ≡ true)
both {a} {b} e = go a b e
  where
    go : (a b : Bool) → (a && b) ≡ true → (a ≡ true) × (b ≡ true)
    go true b e = (refl, e)
    go false b e = (e, cc)

pub both_hold : (a b : Bool) → T (a && b) → T a × T b
both_hold true b t = (tt, t)
both_hold false b t = absurd t

pub within_says : (low x high : ℕ) → within low x high ≡ true → (low ≤ x) × (x ≤ high)
within_says low x high h =
    let b : (leb low x ≡ true) × (leb x high ≡ true) = both h in
    (leb-true low x b.0, leb-true x high b.1)

pub within_of : (low x high : ℕ) → low ≤ x → x ≤ high → within low x high ≡ true
within_of low x high l h = rw (le-leb low x l, le-leb x high h)

pub at_most_one : (b : Bool) → (if b then 1 else 0) ≤ 1
at_most_one true = omega arith
at_most_one false = omega arith

-- a test does not both pass and fail
pub differ : true ≡ false → ⊥
differ e = let z : ◌≡◌ {A = ℕ} 0 1 = cc in omega arith

-- a test that cannot pass fails
pub fails : (b : Bool) → ¬ (b ≡ true) → b ≡ false
fails true n = absurd (n refl)
fails false n = refl

pub eqb_sym : (a b : ℕ) → eqb a b ≡ eqb b a
eqb_sym a b = go (eqb a b) refl (eqb b a) refl
  where
    go : (s : Bool) → eqb a b ≡ s → (t : Bool) → eqb b a ≡ t → s ≡ t
    go true p true q = refl
    go false p false q = refl
    go true p false q = absurd (eqb-false b a q (sym (eqb-true a b p)))
    go false p true q = absurd (eqb-false a b p (sym (eqb-true b a q)))

-- the test b tells whether P
pub data Tells (P : Type 0) : Bool → Type 0 where
  is : P → Tells P true
  isnt : ¬ P → Tells P false

pub tells_equal : (a b : ℕ) → Tells (a ≡ b) (eqb a b)
tells_equal a b = go (eqb a b) refl
  where
    go : (t : Bool) → eqb a b ≡ t → Tells (a ≡ b) t
    go true e = is (eqb-true a b e)
    go false e = isnt (eqb-false a b e)

pub tells_and : {P Q : Type 0} {a b : Bool} → Tells P a → Tells Q b → Tells (P × Q) (a && b)
tells_and (is p) (is q) = is (p, q)
tells_and (is p) (isnt q) = isnt (λ h. q h.1)
tells_and (isnt p) q = isnt (λ h. p h.0)

pub tells_right : {P Q : Type 0} {b : Bool} → ¬ P → Tells Q b → Tells (P ⊎ Q) b
tells_right n (is q) = is (inr q)
tells_right n (isnt q) = isnt (⊎_elim n q)
