-- What looking at a node asks and answers.
use Rattle.std.specs.Prelude.{ℕ, ◌+◌, ◌≤◌, ◌≡◌, List, Bool, true, false, length, ltb, eqb, if◌then◌else◌}
use Rattle.std.specs.Prelude.{Option, Some, None, unwrap_or, Result, Ok, Err}
use Rattle.words.specs.Pool.{node_at, node_words, capacity_most}
use Rattle.node.specs.Lists.{has, upto, last_of}
use Rattle.node.specs.View.{View, keys, rank, good, no_end}
use Rattle.node.specs.declared.cover.Cover.{Cover}
use Rattle.node.specs.declared.cover.Look.{Look}

-- node k lies inside the memory
pub record Inside (m : List ℕ) (k : ℕ) : Type 0 where
  pub first : 1 ≤ k
  pub most : k ≤ capacity_most
  pub within : node_at k + node_words ≤ length m

-- the upper end of a cover, itself not in it
abbrev pub end_of : Cover → ℕ
end_of c = unwrap_or c.hi no_end

-- the last of n rising keys is below an upper end, and so all are
abbrev pub ends : ℕ → ℕ → ℕ → Bool
ends hi n last = if eqb n 0 then true else ltb last hi

-- what is seen of a node that says u, with a least number of entries, keys from a lower end on, and for a key: under an upper end the node
-- is good if the last key is below that end
pub record LookedGood (least from key : ℕ) (u : View) (r : Look) : Type 0 where
  pub good_is : (hi : ℕ) → good least from hi u ≡ ends hi (length u.records) r.last
  pub after_is : r.after ≡ upto key (keys u.records)
  pub last_is : r.last ≡ last_of from (keys u.records)

-- the answer: nothing of a node that is good under no upper end
abbrev pub Looked : ℕ → ℕ → ℕ → View → Option Look → Type 0
Looked least from key u None = (hi : ℕ) → good least from hi u ≡ false
Looked least from key u (Some r) = LookedGood least from key u r

-- the rank of a key in a node that says u: Ok where the key is there, Err where it is not
abbrev pub Placed : ℕ → View → Result ℕ ℕ → Type 0
Placed key u (Ok r) = (r ≡ rank u key) × (has key (keys u.records) ≡ true)
Placed key u (Err r) = (r ≡ rank u key) × (has key (keys u.records) ≡ false)
