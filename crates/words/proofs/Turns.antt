-- What is left of n turns at turn j: one more, or none.
use mathlib.Core.Path.{◌≡◌}
use Prim.Native.Nat.{ℕ, suc, ◌+◌, ◌-◌, ◌≤◌, ◌<◌}
use native.Mathlib.Omega.{arith}

pub turn : (n j : ℕ) → j < n → n - j ≡ suc (n - (j + 1))
turn n j h = omega arith

pub over : (n j : ℕ) → n ≤ j → n - j ≡ 0
over n j h = omega arith
