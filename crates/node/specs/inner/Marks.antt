-- A set of numbers in one word: x is in it where bit x is set.
use Rattle.std.specs.Prelude.{ℕ, ◌/◌, ◌%◌, ◌^◌, Bool, eqb}

abbrev pub marked : ℕ → ℕ → Bool
marked s x = eqb (s / 2 ^ x % 2) 1
