-- Two numbers joined in one word by a shift and an or, and taken apart again, over the number of bits.
use Prim.Native.Nat.{ℕ, ◌+◌, ◌*◌, ◌/◌, ◌%◌, ◌^◌, ◌≤◌, ◌<◌}
use mathlib.Core.Path.{◌≡◌, ◌∙◌, ap}
use lib.Arith.{digits_div, digits_mod}
use lib.Bits.{bit_or, or_shifted}
use lib.Pow.{shl_exact}

-- hi of j bits above lo of k bits, in a word of 64
pub joined : (j k : ℕ) {hi lo : ℕ} → hi < 2 ^ j → lo < 2 ^ k → j + k ≤ 64 → bit_or ((hi * 2 ^ k) % 2 ^ 64) lo ≡ hi * 2 ^ k + lo
joined j k {hi} {lo} high low fits = ap (λ (x : ℕ). bit_or x lo) (shl_exact j k 64 high fits) ∙ or_shifted hi k lo low

pub joined_high : (k : ℕ) {lo : ℕ} (hi : ℕ) → lo < 2 ^ k → (hi * 2 ^ k + lo) / 2 ^ k ≡ hi
joined_high k hi low = digits_div hi low

pub joined_low : (k : ℕ) {lo : ℕ} (hi : ℕ) → lo < 2 ^ k → (hi * 2 ^ k + lo) % 2 ^ k ≡ lo
joined_low k hi low = digits_mod hi low
