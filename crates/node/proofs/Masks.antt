-- A set of numbers in one word: the empty one, and one number more.
use mathlib.Core.Path.{◌≡◌, ◌∙◌, ap, refl}
use mathlib.Core.Bool.{Bool, true, false, ◌||◌, or-false, or_assoc, or_comm}
use Prim.Native.Nat.{ℕ, zero, suc, ◌+◌, ◌-◌, ◌*◌, ◌/◌, ◌%◌, ◌^◌, ◌≤◌, ◌<◌, max}
use native.Mathlib.Nat.{zero-div, div-one, div-eq_of_lt, max-zero, mod-lt, mul-div-mul_right, pow-suc, one-mul}
use native.Mathlib.Omega.{arith}
use borrow.Author.Tests.{eq-eqb, ne_eqb}
use lib.Arith.{digits_mod}
use lib.Bits.{bit_or, or_shr, or_step, shifted_even}
use lib.Dec.{eqb, lit<, eqb-suc-suc, eqb-suc-zero, eqb-zero-suc}
use lib.Pow.{pow-lt}
use Rattle.std.specs.Prelude.{if◌then◌else◌}
use Rattle.words.proofs.Turns.{turn, over}
use Rattle.node.specs.Lists.{has}
use Rattle.node.specs.Slot.{byte, bytes}
use Rattle.node.specs.inner.Marks.{marked}
use Rattle.node.proofs.Joins.{one_shifted}

pub marked_none : (x : ℕ) → marked 0 x ≡ false
marked_none x = rw (zero-div)

odd_or : (a b : ℕ) → bit_or a b % 2 ≡ max (a % 2) (b % 2)
odd_or a b =
    let p : a % 2 < 2 = mod-lt a (lit< tt) in
    let q : b % 2 < 2 = mod-lt b (lit< tt) in
    ap (λ (x : ℕ). x % 2) (or_step a b) ∙ digits_mod (bit_or (a / 2) (b / 2)) (omega arith)

-- bit x of 2 ^ e
power_bit : (e x : ℕ) → 2 ^ e / 2 ^ x % 2 ≡ (if eqb x e then 1 else 0)
power_bit zero zero = refl
power_bit (suc e) zero = rw (eqb-zero-suc e, div-one, ← one-mul (2 ^ suc e)) (shifted_even 1 e)
power_bit zero (suc x) =
    let h : 1 < 2 ^ suc x = pow-lt {i = 0} {j = suc x} (omega arith) in
    rw (eqb-suc-zero x, div-eq_of_lt h)
power_bit (suc e) (suc x) =
    rw (eqb-suc-suc x e, pow-suc 2 e, pow-suc 2 x, mul-div-mul_right (2 ^ e) (2 ^ x) (lit< {m = 0} {n = 2} tt)) (power_bit e x)

-- one number more
pub marked_with : (s e x : ℕ) → e < 64 → marked (bit_or s ((1 * 2 ^ e) % 2 ^ 64)) x ≡ (eqb x e || marked s x)
marked_with s e x h =
    rw (one_shifted e h, or_shr s (2 ^ e) x, odd_or (s / 2 ^ x) (2 ^ e / 2 ^ x), power_bit e x) (go (eqb x e))
  where
    go : (b : Bool) → eqb (max (s / 2 ^ x % 2) (if b then 1 else 0)) 1 ≡ (b || marked s x)
    go true =
        let p : s / 2 ^ x % 2 < 2 = mod-lt (s / 2 ^ x) (lit< tt) in
        eq-eqb (max (s / 2 ^ x % 2) 1) 1 (omega arith)
    go false = rw (max-zero)

-- a turn of the loop that gathers them: the byte that comes next, and those that are left
module _ (n j rest x : ℕ) (h : j < n) where
  next : has x (bytes (n - j) rest) ≡ (eqb x (rest % byte) || has x (bytes (n - (j + 1)) (rest / byte)))
  unfolding bytes has
  next = rw (turn n j h)

  pub gathers : (a b : Bool) → b ≡ (eqb x (rest % byte) || a)
      → (a || has x (bytes (n - j) rest)) ≡ (b || has x (bytes (n - (j + 1)) (rest / byte)))
  gathers a b e =
      rw (e, next, ← or_assoc a (eqb x (rest % byte)) (has x (bytes (n - (j + 1)) (rest / byte))), or_comm a (eqb x (rest % byte)))

  -- a byte of 64 or more is none of them
  pub passes : (a : Bool) → x < 64 → 64 ≤ rest % byte
      → (a || has x (bytes (n - j) rest)) ≡ (a || has x (bytes (n - (j + 1)) (rest / byte)))
  passes a low high = gathers a a (rw (ne_eqb x (rest % byte) (λ e. omega arith)))

pub gathered : (n j rest x : ℕ) (a : Bool) → n ≤ j → (a || has x (bytes (n - j) rest)) ≡ a
unfolding bytes has
gathered n j rest x a h = rw (over n j h) (or-false a)
