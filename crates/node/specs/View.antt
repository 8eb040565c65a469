-- Document 01, "Words and counts": what a node says, and when it is sound.
use Rattle.std.specs.Prelude.{ℕ, ◌+◌, ◌*◌, ◌^◌, List, map, Bool, ◌&&◌, length}
use Rattle.words.specs.Tests.{within}
use Rattle.words.specs.Pool.{node_at}
use Rattle.words.specs.Event.{at}
use Rattle.node.specs.Lists.{all_below, different, rising, covered, below}
use Rattle.node.specs.Slot.{names, entries}

-- "Word 0 of a node is the slot word", "Word 1 is the next leaf (0 for none) in a leaf, the leftmost child in an inner node"
abbrev pub slot_at : ℕ → ℕ
slot_at k = node_at k

abbrev pub link_at : ℕ → ℕ
link_at k = node_at k + 1

-- "Entry i is words 2 + 2i (key) and 3 + 2i (value or child)."
abbrev pub key_at : ℕ → ℕ → ℕ
key_at k i = node_at k + (2 + 2 * i)

abbrev pub value_at : ℕ → ℕ → ℕ
value_at k i = node_at k + (3 + 2 * i)

-- a key, and the value or the child under it
abbrev pub Record : Type 0
Record = ℕ × ℕ

abbrev pub entry : List ℕ → ℕ → ℕ → Record
entry m k i = (at m (key_at k i), at m (value_at k i))

-- what node k says: its word 1, the entries that its slot word names, and their records in that order
pub record View : Type 0 where
  pub link : ℕ
  pub named : List ℕ
  pub records : List Record

unfoldable pub view : List ℕ → ℕ → View
view m k =
    let ns = names (at m (slot_at k)) in
    record { link = at m (link_at k); named = ns; records = map (entry m k) ns }

abbrev pub keys : List Record → List ℕ
keys rs = map (λ (r : Record). r.0) rs

-- the place of a key among those of a node
abbrev pub rank : View → ℕ → ℕ
rank u key = below key (keys u.records)

-- "A node is sound when its count is at most 7 (at least 1 if inner), its named entries are at most 6 and all different, and keys
-- rise strictly." The least is 0 for a leaf and 1 for an inner node.
unfoldable pub sound : ℕ → View → Bool
sound least u =
    within least (length u.named) entries && all_below entries u.named && different u.named && rising (keys u.records)

-- "keys keep within their covers": a cover is [lo, hi), and a hi of 2 ^ 64 is none
abbrev pub no_end : ℕ
no_end = 2 ^ 64

-- sound, and within the cover
unfoldable pub good : ℕ → ℕ → ℕ → View → Bool
good least lo hi u = sound least u && covered lo hi (keys u.records)
