-- Tests as numbers, and tests whose parts change places.
use mathlib.Core.Path.{◌≡◌, refl}
use mathlib.Core.Bool.{Bool, true, false, not, ◌&&◌, ◌||◌}
use Prim.Native.Nat.{◌≤◌}
use lib.Dec.{lit≤}
use mir.Val.{bool_byte}

-- a test as a number
pub bit_le : (b : Bool) → bool_byte b ≤ 1
bit_le true = lit≤ tt
bit_le false = lit≤ tt

-- neither a nor b, nor c, and d: the second and the third change places
pub neither : (a b c d : Bool) → (not (a || b) && (not c && d)) ≡ (not (a || c) && (not b && d))
neither true b c d = refl
neither false true true d = refl
neither false true false d = refl
neither false false true d = refl
neither false false false d = refl
