-- Words put together by shifts and masks, as sums, each law over the number of bits.
use mathlib.Core.Path.{◌≡◌, ◌∙◌}
use Prim.Native.Nat.{ℕ, ◌+◌, ◌*◌, ◌/◌, ◌%◌, ◌-◌, ◌^◌, ◌≤◌, ◌<◌}
use native.Mathlib.Nat.{lt_of_le_of_lt, mod-lt, one-mul}
use native.Mathlib.Omega.{arith}
use lib.Arith.{digits_lt}
use lib.Bits.{bit_and, bit_or, and_mask}
use lib.Pow.{pow_pos, pow-add, shl_exact, shr_lt, shr_le}
use Rattle.words.proofs.Joined.{joined}

-- hi of j bits above lo of k bits: below 2 ^ (j + k)
pub cat_lt : (j k : ℕ) {hi lo : ℕ} → hi < 2 ^ j → lo < 2 ^ k → hi * 2 ^ k + lo < 2 ^ (j + k)
cat_lt j k h l = rw pow-add (digits_lt h l)

-- 1 shifted up by fewer than 64 bits
pub one_shifted : (k : ℕ) → k < 64 → (1 * 2 ^ k) % 2 ^ 64 ≡ 2 ^ k
one_shifted k h = shl_exact 1 k 64 (omega arith) (omega arith) ∙ one-mul (2 ^ k)

-- the mask of the lowest k bits
pub low_mask : (w k : ℕ) → k < 64 → bit_and w ((1 * 2 ^ k) % 2 ^ 64 - 1) ≡ w % 2 ^ k
low_mask w k h = rw (one_shifted k h) (and_mask w k)

-- b put in at bit k of w, of the lowest 56
pub inserted : (k : ℕ) {w b : ℕ} → k ≤ 56 → w < 2 ^ 56 → b < 256
    → bit_or ((bit_or ((w / 2 ^ k * 2 ^ 8) % 2 ^ 64) b * 2 ^ k) % 2 ^ 64) (w % 2 ^ k) ≡ (w / 2 ^ k * 256 + b) * 2 ^ k + w % 2 ^ k
inserted k {w} {b} hk hw hb =
    let high : w / 2 ^ k < 2 ^ (56 - k) = shr_lt (56 - k) k (rw (rejoin) hw) in
    rw (joined 56 8 (lt_of_le_of_lt (shr_le w k) hw) hb (omega arith))
    (joined (56 - k + 8) k (cat_lt (56 - k) 8 high hb) (mod-lt w (pow_pos k)) (omega arith))
  where
    rejoin : 56 - k + k ≡ 56
    rejoin = omega arith

-- the 8 bits of w from bit k on taken out
pub lifted : (k : ℕ) {w : ℕ} → k ≤ 56 → w < 2 ^ 64
    → bit_or ((w / 2 ^ k / 2 ^ 8 * 2 ^ k) % 2 ^ 64) (w % 2 ^ k) ≡ w / 2 ^ k / 2 ^ 8 * 2 ^ k + w % 2 ^ k
lifted k {w} hk hw =
    let low : w / 2 ^ k < 2 ^ (64 - k) = shr_lt (64 - k) k (rw (rejoin) hw) in
    let less : w / 2 ^ k / 2 ^ 8 < 2 ^ (56 - k) = shr_lt (56 - k) 8 (rw (again) low) in
    joined (56 - k) k less (mod-lt w (pow_pos k)) (omega arith)
  where
    rejoin : 64 - k + k ≡ 64
    rejoin = omega arith

    again : 56 - k + 8 ≡ 64 - k
    again = omega arith
