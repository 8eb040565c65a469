-- The words that reading a pool looks at. All others may hold anything: a log with commit word 0, entries that no slot word names,
-- nodes above used, and what lies past the total.
use Rattle.std.specs.Prelude.{ℕ, ◌≤◌, ◌≡◌, ◌⊎◌, List, true}
use Rattle.words.specs.Pool.{commit_at}
use Rattle.node.specs.Lists.{has}
use Rattle.node.specs.View.{view, slot_at, link_at, key_at, value_at}
use Rattle.tree.specs.Header.{used_of}

-- of a node: the slot word, word 1, and the key and the value or child of each named entry
abbrev pub ReadsNode : List ℕ → ℕ → ℕ → Type 0
ReadsNode m k w =
    (w ≡ slot_at k) ⊎ (w ≡ link_at k) ⊎ ((i : ℕ) × (has i (view m k).named ≡ true) × ((w ≡ key_at k i) ⊎ (w ≡ value_at k i)))

-- words 0 to 8 (the header and the commit word), and of the nodes 1 to used what a node is read by
abbrev pub Reads : List ℕ → ℕ → Type 0
Reads m w = (w ≤ commit_at) ⊎ ((k : ℕ) × (1 ≤ k) × (k ≤ used_of m) × ReadsNode m k w)
