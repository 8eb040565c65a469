-- The pairs of a log as the code has them, two words each.
use Rattle.std.specs.Prelude.{ℕ, ◌<◌, ◌≡◌, List, [], ◌∷◌, ◌++◌}
use Rattle.words.specs.Event.{at, top_byte}
use Rattle.words.specs.Blocks.{Pair}
use Rattle.tree.specs.Lists.{Each}

abbrev pub pairs_of : List (List ℕ) → List Pair
pairs_of [] = []
pairs_of (q ∷ qs) = (at q 0, at q 1) ∷ pairs_of qs

-- the pairs ps were noted after those of the log g: it is g' then
pub record Noted (ps g g' : List Pair) : Type 0 where
  pub pairs : g' ≡ g ++ ps

-- the address of each pair fits an event
abbrev pub Near : List Pair → Type 0
Near ps = Each (λ (q : Pair). q.0 < top_byte) ps
