-- What the planning of a split hands on from call to call. The lent list is l before a call and l' after it, the log's pairs g and g'.
use Rattle.std.specs.Prelude.{ℕ, ◌+◌, ◌-◌, ◌*◌, ◌≤◌, ◌≡◌, List, [], ◌∷◌, ◌++◌, Option, Some, None, true, length, get_or}
use Rattle.words.specs.Pool as p
use Rattle.words.specs.Blocks.{Pair, stored}
use Rattle.words.specs.Written.{Wrote}
use Rattle.words.specs.declared.write.EventList.{EventList}
use Rattle.node.specs.View as views
use Rattle.node.specs.View.{Record, view, slot_at, link_at}
use Rattle.node.specs.inner.Said.{said}
use Rattle.tree.specs.Header.{capacity_of, used_of, root_of, height_of, form_agrees, counts_agree}
use Rattle.tree.specs.Lists.{Each}
use Rattle.tree.specs.Halves.{eight, upper_four, fifth, upper_three}
use Rattle.change.specs.Steps.{full, entry_pairs, taken_slot, parent_spot, new_node, staying_pairs}
use Rattle.change.specs.Plan.{Plan, new_nodes}
use Rattle.change.specs.Put.{needed}
use Rattle.split.specs.declared.opening.Eight.{Eight}
use Rattle.split.specs.inner.Opened.{Met}
use Rattle.split.specs.inner.Pairs.{Noted}

-- "the 8 records"
abbrev pub eight_of : Eight → List Record
eight_of f = eight (said f.node) f.new

-- "word 1 (leaf only)": the new leaf that leaf k is linked to
abbrev pub word_1 : ℕ → Option ℕ → List Pair
word_1 k None = []
word_1 k (Some new) = (link_at k, new) ∷ []

-- the pairs of full node k that splits for a new record
abbrev pub staying : List ℕ → ℕ → Record → Option ℕ → List Pair
staying m k r next = staying_pairs k (view m k) r (word_1 k next)

-- there is room for the events and the pairs of one more level, and for its new node
pub record Room (new : ℕ) (l : EventList) (g : List Pair) : Type 0 where
  pub number : new ≤ p.capacity_most
  pub events : l.events + 12 ≤ p.events_most
  pub pairs : length g + 4 ≤ p.pairs_most

-- one level was split: its new node is written, its pairs are noted, and a key goes up with the new node's number
pub record Level (node pairs : List Pair) (key new : ℕ) (l : EventList) (g : List Pair) (l' : EventList) (g' : List Pair) (r : Record)
    : Type 0 where
  pub wrote : Wrote (stored node) l l'
  pub noted : Noted pairs g g'
  pub goes_up : r ≡ (key, new)

-- the leaf: "the lower 4 stay and the upper 4 go to a new leaf, whose smallest key goes up"
abbrev pub LeafLevel : List ℕ → ℕ → Record → ℕ → EventList → List Pair → EventList → List Pair → Record → Type 0
LeafLevel m k r new =
    let v = view m k in
    Level (new_node new v.link (upper_four v r)) (staying m k r (Some new)) (fifth v r).0 new

-- an inner node: "the fifth's key goes up and its child becomes the new node's leftmost, the upper 3 go over"
abbrev pub InnerLevel : List ℕ → ℕ → Record → ℕ → EventList → List Pair → EventList → List Pair → Record → Type 0
InnerLevel m k r new =
    let v = view m k in
    Level (new_node new (fifth v r).1 (upper_three v r)) (staying m k r None) (fifth v r).0 new

-- the pairs of the node with room: "key, child (lowest unused entry), slot word of the parent that took the last one; then used"
abbrev pub parent_pairs : List ℕ → ℕ → ℕ → Record → List Pair
parent_pairs m k used up =
    let v = view m k in
    entry_pairs k (parent_spot v) up ++ ((slot_at k, taken_slot v up.0 (parent_spot v)) ∷ (p.used_at, used) ∷ [])

-- "A full root gets a new root above it, leftmost child the old root"; the pairs "used; then, for a new root, root and height"
abbrev pub new_root : List ℕ → ℕ → Record → Plan
new_root m new up = record {
  nodes = new_node new (root_of m) (up ∷ []) ∷ [];
  pairs = (p.used_at, new) ∷ (p.root_at, new) ∷ (p.height_at, height_of m + 1) ∷ [];
}

-- a plan's new nodes are written, and its pairs noted
pub record Done (q : Plan) (l : EventList) (g : List Pair) (l' : EventList) (g' : List Pair) : Type 0 where
  pub wrote : Wrote (new_nodes q.nodes) l l'
  pub noted : Noted q.pairs g g'

-- what a call on the levels above is handed, i levels below them being split, each by at most 9 events and 3 pairs, the leaf by 12 and 4
pub record Ready (m levels : List ℕ) (i : ℕ) (l : EventList) (g : List Pair) : Type 0 where
  pub form : form_agrees m ≡ true
  pub counts : counts_agree m ≡ true
  pub high : length levels + i ≤ p.height_most
  pub nodes : Each (Met m) levels
  pub need : needed m levels + i ≤ p.height_most
  pub free : used_of m + (needed m levels + i) ≤ capacity_of m
  pub events : l.events ≤ 3 + 9 * i
  pub pairs : length g ≤ 1 + 3 * i

-- what a put into a full leaf is handed: the way down met the path's nodes, the leaf first, and the tests of refusals 5 and 4 passed
pub record ToSplit (m path : List ℕ) (rank key : ℕ) : Type 0 where
  pub form : form_agrees m ≡ true
  pub counts : counts_agree m ≡ true
  pub high : length path ≤ p.height_most
  pub some : 1 ≤ length path
  pub nodes : Each (Met m) path
  pub full_is : full (view m (get_or path 0 0)) ≡ true
  pub rank_is : rank ≡ views.rank (view m (get_or path 0 0)) key
  pub need : needed m path ≤ p.height_most
  pub free : needed m path ≤ capacity_of m - used_of m
