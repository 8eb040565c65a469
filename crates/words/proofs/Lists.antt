-- Numbers that follow each other: how many, and which.
use Prim.Native.Nat.{ℕ, zero, suc, ◌+◌, ◌<◌}
use mathlib.Core.Path.{◌≡◌, refl, ◌∙◌, ap}
use native.Mathlib.Omega.{arith}
use lib.ListN.{length}
use Rattle.words.specs.Lists.{count_from}
use Rattle.words.specs.Event.{at}

pub length_from : (i n : ℕ) → length (count_from i n) ≡ n
length_from i zero = refl
length_from i (suc n) = ap suc (length_from (i + 1) n)

pub at_from : (i n k : ℕ) → k < n → at (count_from i n) k ≡ i + k
at_from i zero k h = absurd (omega arith)
at_from i (suc n) zero h = omega arith
at_from i (suc n) (suc k) h = at_from (i + 1) n k (omega arith) ∙ omega arith
