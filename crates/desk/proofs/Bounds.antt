-- What the tests of refusal 9 say.
use Prim.Native.Nat.{ℕ, ◌≤◌, ◌<◌}
use mathlib.Core.Path.{◌≡◌, refl}
use mathlib.Core.Bool.{Bool, true, false}
use native.Mathlib.Omega.{arith}
use lib.Dec.{leb}
use borrow.Author.Tests.{le-leb, leb-true}
use Rattle.std.specs.Prelude.{if◌then◌else◌}
use Rattle.words.specs.Tests.{within}
use Rattle.words.proofs.Tests.{both, within_says}
use Rattle.desk.specs.Desk.{desks_most, may_submit, may_turn}

pub not_both : (b : Bool) → b ≡ true → b ≡ false → ⊥
not_both b p q = cc

-- the desks are 1 to 16
pub may_turn_true : (n last : ℕ) → may_turn n last ≡ true → (1 ≤ n) × (n ≤ desks_most) × (last ≤ n)
may_turn_true n last t =
    let a = both {a = within 1 n desks_most} {b = leb last n} t in
    let b = within_says 1 n desks_most a.0 in
    (b.0, b.1, leb-true last n a.1)

pub turn_may : (n last : ℕ) → 1 ≤ n → n ≤ desks_most → last ≤ n → may_turn n last ≡ true
turn_may n last a b c = rw (le-leb 1 n a, le-leb n desks_most b, le-leb last n c)

pub may_submit_true : (n j : ℕ) → may_submit n j ≡ true → (1 ≤ n) × (n ≤ desks_most) × (1 ≤ j) × (j ≤ n)
may_submit_true n j t =
    let a = both {a = within 1 n desks_most} {b = within 1 j n} t in
    let b = within_says 1 n desks_most a.0 in
    let c = within_says 1 j n a.1 in
    (b.0, b.1, c.0, c.1)

pub submit_may : (n j : ℕ) → n ≤ desks_most → 1 ≤ j → j ≤ n → may_submit n j ≡ true
submit_may n j a b c = let d : 1 ≤ n = omega arith in rw (le-leb 1 n d, le-leb n desks_most a, le-leb 1 j b, le-leb j n c)

-- how many desks a turn looks at
pub looked_none : (n last : ℕ) → (if may_turn n last then n else 0) ≡ 0 → may_turn n last ≡ false
looked_none n last = go (may_turn n last) refl
  where
    go : (b : Bool) → may_turn n last ≡ b → (if b then n else 0) ≡ 0 → b ≡ false
    go true t e = absurd (omega (arith, may_turn_true n last t))
    go false t e = refl

pub looked_some : (n last k : ℕ) → k < (if may_turn n last then n else 0) → may_turn n last ≡ true
looked_some n last k = go (may_turn n last)
  where
    go : (b : Bool) → k < (if b then n else 0) → b ≡ true
    go true h = refl
    go false h = absurd (omega arith)

-- a desk that is looked at after k others is one of a list of desks
pub looked_bounds : (n last k : ℕ) → k < (if may_turn n last then n else 0) → (n ≤ desks_most) × (last ≤ n) × (k < n)
looked_bounds n last k h =
    let t = looked_some n last k h in
    let b = may_turn_true n last t in
    (b.1, b.2, rw t at h)
