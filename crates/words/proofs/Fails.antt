-- Tests that fail exactly where a condition holds, tests of numbers, and the rows of a table of refusals.
use Prim.Native.Nat.{ℕ, ◌≤◌, ◌<◌}
use mathlib.Core.Path.{◌≡◌, refl, sym}
use mathlib.Core.Logic.{◌⊎◌, inl, inr, ⊎_elim}
use mathlib.Core.List.{◌∷◌}
use mathlib.Core.Bool.{Bool, true, false, not, ◌&&◌}
use native.Mathlib.Omega.{arith}
use lib.Dec.{ltb, leb, eqb}
use borrow.Author.Tests.{ltb-true, ltb-false, leb-true, leb-false}
use Rattle.std.specs.Prelude.{if◌then◌else◌}
use Rattle.words.specs.Tests.{within}
use Rattle.words.specs.Refusals.{Rows, Says, Outside}
use Rattle.words.proofs.Tests.{Tells, is, isnt, tells_equal, differ}

-- the test b fails exactly where P
pub data Fails (P : Type 0) : Bool → Type 0 where
  breaks : P → Fails P false
  keeps : ¬ P → Fails P true

-- a test that tells P passes where P, and P where it passes
pub sure : {P : Type 0} {b : Bool} → Tells P b → P → b ≡ true
sure (is p) q = refl
sure (isnt n) q = absurd (n q)

pub told : {P : Type 0} {b : Bool} → Tells P b → b ≡ true → P
told (is p) e = p
told (isnt n) e = absurd (differ (sym e))

-- a test that P fails does so where P, and P where it fails
pub failing : {P : Type 0} {b : Bool} → Fails P b → P → b ≡ false
failing (breaks p) q = refl
failing (keeps n) q = absurd (n q)

pub why_failed : {P : Type 0} {b : Bool} → Fails P b → b ≡ false → P
why_failed (breaks p) e = p
why_failed (keeps n) e = absurd (differ e)

-- the same told in other words
pub tells_by : {P Q : Type 0} {b : Bool} → (P → Q) → (Q → P) → Tells P b → Tells Q b
tells_by f g (is p) = is (f p)
tells_by f g (isnt n) = isnt (λ q. n (g q))

pub fails_by : {P Q : Type 0} {b : Bool} → (P → Q) → (Q → P) → Fails P b → Fails Q b
fails_by f g (breaks p) = breaks (f p)
fails_by f g (keeps n) = keeps (λ q. n (g q))

-- a test, and its negation
pub fails_told : {P : Type 0} {b : Bool} → Tells P b → Fails (¬ P) b
fails_told (is p) = keeps (λ n. n p)
fails_told (isnt n) = breaks n

pub not_tells : {P : Type 0} {b : Bool} → Fails P b → Tells P (not b)
not_tells (breaks p) = is p
not_tells (keeps n) = isnt n

pub tells_not : {P : Type 0} (b : Bool) → Tells P (not b) → Fails P b
tells_not true (isnt n) = keeps n
tells_not false (is p) = breaks p

pub not_fails : {P : Type 0} {b : Bool} → Tells P b → Fails P (not b)
not_fails (is p) = breaks p
not_fails (isnt n) = keeps n

-- a row: a test that tells its condition, and what is answered where it passes, and where it fails
pub row : {C : Type 0} {b : Bool} (k : ℕ) (rows : Rows) {P : Type 0} (number : P → ℕ) (x y : P) → Tells C b → number x ≡ k
    → (¬ C → Says rows (number y)) → Says ((C, k) ∷ rows) (number (if b then x else y))
row k rows number x y (is c) e h = inl (c, e)
row k rows number x y (isnt n) e h = inr (n, h n)

-- one of two tests fails
pub fails_and : {P Q : Type 0} {a b : Bool} → Fails P a → Fails Q b → Fails (P ⊎ Q) (a && b)
fails_and (breaks p) q = breaks (inl p)
fails_and (keeps n) (breaks q) = breaks (inr q)
fails_and (keeps n) (keeps k) = keeps (⊎_elim n k)

-- tests of numbers
pub tells_less : (a b : ℕ) → Tells (a < b) (ltb a b)
tells_less a b = go (ltb a b) refl
  where
    go : (t : Bool) → ltb a b ≡ t → Tells (a < b) t
    go true e = is (ltb-true a b e)
    go false e = let h : b ≤ a = ltb-false a b e in isnt (λ l. omega arith)

pub fails_less : (a b : ℕ) → Fails (b ≤ a) (ltb a b)
fails_less a b = fails_by (λ n. omega arith) (λ h l. omega arith) (fails_told (tells_less a b))

pub tells_most : (a b : ℕ) → Tells (a ≤ b) (leb a b)
tells_most a b = go (leb a b) refl
  where
    go : (t : Bool) → leb a b ≡ t → Tells (a ≤ b) t
    go true e = is (leb-true a b e)
    go false e = let h : b < a = leb-false a b e in isnt (λ l. omega arith)

pub fails_most : (a b : ℕ) → Fails (b < a) (leb a b)
fails_most a b = fails_by (λ n. omega arith) (λ h l. omega arith) (fails_told (tells_most a b))

pub fails_equal : (a b : ℕ) → Fails (¬ (a ≡ b)) (eqb a b)
fails_equal a b = fails_told (tells_equal a b)

pub out_in : {low x high : ℕ} → Outside low x high → low ≤ x → x ≤ high → ⊥
out_in (inl o) h g = omega arith
out_in (inr o) h g = omega arith

pub not_out : (low x high : ℕ) → ¬ Outside low x high → (low ≤ x) × (x ≤ high)
not_out low x high n =
    let l : ¬ (x < low) = λ h. n (inl h) in
    let u : ¬ (high < x) = λ h. n (inr h) in
    (omega arith, omega arith)

pub fails_within : (low x high : ℕ) → Fails (Outside low x high) (within low x high)
fails_within low x high = fails_and (fails_most low x) (fails_most x high)
