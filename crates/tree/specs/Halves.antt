-- Document 01, "Put, leaf full": the two halves of a split, and the numbers of new nodes.
use Rattle.std.specs.Prelude.{ℕ, ◌+◌, List, take, drop, get_or}
use Rattle.node.specs.Lists.{insert}
use Rattle.node.specs.View.{Record, View, rank}

-- a node's records, with a new one at its rank: of a full node "the 8 records"
abbrev pub eight : View → Record → List Record
eight u r = insert (rank u r.0) r u.records

-- "of the 8 records the lower 4 stay"
abbrev pub lower : ℕ
lower = 4

abbrev pub lower_four : View → Record → List Record
lower_four u r = take lower (eight u r)

-- "and the upper 4 go to a new leaf, whose smallest key goes up": the key of the fifth
abbrev pub upper_four : View → Record → List Record
upper_four u r = drop lower (eight u r)

-- of an inner node "the fifth's key goes up and its child becomes the new node's leftmost"
abbrev pub fifth : View → Record → Record
fifth u r = get_or (eight u r) lower (0, 0)

-- "the upper 3 go over"
abbrev pub upper_three : View → Record → List Record
upper_three u r = drop (lower + 1) (eight u r)

-- "New nodes are numbered used + 1 upward from the leaf": the new node that comes after i others
abbrev pub supply : ℕ → ℕ → ℕ
supply used i = used + 1 + i

-- used once there are i new nodes
abbrev pub used_with : ℕ → ℕ → ℕ
used_with used i = used + i
