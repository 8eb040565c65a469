-- Document 01, "The steps of each change": what is stored to one node.
use Rattle.std.specs.Prelude.{ℕ, ◌+◌, ◌-◌, List, [], ◌∷◌, ◌++◌, Bool, length, take, ltb, eqb, if◌then◌else◌}
use Rattle.words.specs.Lists.{count_from}
use Rattle.words.specs.Blocks.{Pair}
use Rattle.node.specs.Lists.{insert, remove}
use Rattle.node.specs.Slot.{slot, entries, spot}
use Rattle.node.specs.View.{Record, View, rank, slot_at, link_at, key_at, value_at}
use Rattle.tree.specs.Halves.{lower}

-- a node that has no entry left
abbrev pub full : View → Bool
full u = eqb (length u.named) entries

-- key and value (or child) into entry i of node k
abbrev pub entry_pairs : ℕ → ℕ → Record → List Pair
entry_pairs k i r = (key_at k i, r.0) ∷ (value_at k i, r.1) ∷ []

-- the slot word of a node that is not full, with entry i named for a key
abbrev pub taken_slot : View → ℕ → ℕ → ℕ
taken_slot u key i = slot (insert (rank u key) i u.named)

-- a put without a split: "into the lowest-numbered unused entry"
abbrev pub fill_spot : View → ℕ
fill_spot u = spot u.named

-- the parent that takes the last key of a split: "lowest unused entry"
abbrev pub parent_spot : View → ℕ
parent_spot u = spot u.named

-- "Delete: new slot word": without the name of a key
abbrev pub removed_slot : View → ℕ → ℕ
removed_slot u key = slot (remove (rank u key) u.named)

-- "their entries stand in rising order from 0"
abbrev pub laid : ℕ → ℕ → List Record → List Pair
laid k i [] = []
laid k i (r ∷ rs) = entry_pairs k i r ++ laid k (i + 1) rs

-- (a) a new node: "slot word, word 1, entries in order"
abbrev pub new_node : ℕ → ℕ → List Record → List Pair
new_node k link rs = (slot_at k, slot (count_from 0 (length rs))) ∷ (link_at k, link) ∷ laid k 0 rs

-- "A new record that stays below takes the lowest entry not kept": three of the old entries are kept then
abbrev pub staying_spot : View → ℕ
staying_spot u = spot (take (lower - 1) u.named)

-- the slot word of those that stay: "of the 8 records the lower 4 stay"
abbrev pub lower_slot : View → ℕ → ℕ
lower_slot u key = slot (take lower (insert (rank u key) (staying_spot u) u.named))

-- (b) of a split level: "key and value of its new record (if that stays), word 1 (leaf only), slot word"
unfoldable pub staying_pairs : ℕ → View → Record → List Pair → List Pair
staying_pairs k u r word-1 =
    (if ltb (rank u r.0) lower then entry_pairs k (staying_spot u) r else [])
    ++ (word-1 ++ ((slot_at k, lower_slot u r.0) ∷ []))
