-- Tests by which definitions choose.
use Rattle.std.specs.Prelude.{ℕ, Bool, ◌&&◌, leb}

-- x is low to high, both ends included
abbrev pub within : ℕ → ℕ → ℕ → Bool
within low x high = leb low x && leb x high
