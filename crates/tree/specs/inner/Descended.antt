-- What the code of the way down asks and answers.
use Rattle.std.specs.Prelude.{ℕ, suc, ◌≤◌, ◌≡◌, ◌⊎◌, List, [], true, false, length, get_or, take, drop, Result, Ok, Err}
use Rattle.words.specs.Event.{at}
use Rattle.node.specs.Lists.{all_below}
use Rattle.node.specs.Slot.{count, names, entries}
use Rattle.node.specs.View.{view, good, slot_at}
use Rattle.node.specs.inner.Looked.{LookedGood, Placed}
use Rattle.node.specs.declared.cover.Look.{Look}
use Rattle.node.specs.declared.layout.Node.{Node}
use Rattle.tree.specs.declared.descend.Step.{Step}
use Rattle.tree.specs.declared.descend.Seat.{Seat}
use Rattle.tree.specs.declared.descend.Fault.{Fault}
use Rattle.words.specs.Tests.{within}
use Rattle.tree.specs.Header.{used_of}
use Rattle.tree.specs.Kids.{Kid, kids}
use Rattle.tree.specs.Path.{Way, failed, leaf, levels_above, way_to}

-- slot word w names entries, and no more than a node has
pub record Names (w : ℕ) : Type 0 where
  pub few : count w ≤ entries
  pub low : all_below entries (names w) ≡ true

-- the child of node c that has j keys before it
abbrev pub kid_after : List ℕ → Kid → ℕ → Kid
kid_after m c j = get_or (kids c (view m c.number)) j c

-- step r is to the child of node c that has j keys before it
pub record Child (m : List ℕ) (c : Kid) (j : ℕ) (r : Step) : Type 0 where
  pub node_is : r.node ≡ (kid_after m c j).number
  pub parent_is : r.parent ≡ c.number
  pub from_is : r.from ≡ (kid_after m c j).from
  pub top_is : suc r.top ≡ (kid_after m c j).upto

-- the node of a step is in use and good under its cover, and what was seen of it
pub record MetGood (m : List ℕ) (s : Step) (least key : ℕ) (n : Node) (seen : Look) : Type 0 where
  pub in_use : within 1 s.node (used_of m) ≡ true
  pub pool_is : n.pool.now ≡ m
  pub number_is : n.number ≡ s.node
  pub seen_is : LookedGood least s.from key (view m s.node) seen
  pub last_in : seen.last ≤ s.top

-- the answer: the parent is at fault for a number that is not one of a node in use, else the node for what is wrong with it
abbrev pub Met : List ℕ → Step → ℕ → ℕ → Result (Node × Look) Fault → Type 0
Met m s least key (Ok p) = MetGood m s least key p.0 p.1
Met m s least key (Err f) =
    ((within 1 s.node (used_of m) ≡ false) × (f.node ≡ s.parent))
    ⊎ ((within 1 s.node (used_of m) ≡ true) × (good least s.from (suc s.top) (view m s.node) ≡ false) × (f.node ≡ s.node))

-- the nodes above the leaf that a way found
abbrev pub above_of : Way → List ℕ
above_of (failed k) = []
above_of (leaf k ks) = ks

-- the way down to a key found a leaf
pub record Reaches (m : List ℕ) (key : ℕ) : Type 0 where
  pub node : ℕ
  pub above : List ℕ
  pub way_is : way_to m key ≡ leaf node above

-- the way down to a key found this leaf, with this slot word, and the key has this place there
pub record Seated (m : List ℕ) (key : ℕ) (s : Seat) : Type 0 where
  pub way_is : way_to m key ≡ leaf s.leaf (above_of (way_to m key))
  pub slot_is : s.slot ≡ at m (slot_at s.leaf)
  pub place_is : Placed key (view m s.leaf) s.place

-- the answer to the way down to a key: the node at fault, or the leaf
abbrev pub Descended : List ℕ → ℕ → Result Seat Fault → Type 0
Descended m key (Err f) = way_to m key ≡ failed f.node
Descended m key (Ok s) = Seated m key s

-- the path to the leaf of a key: the leaf, then a node for each level above
pub record Pathed (m : List ℕ) (key : ℕ) (path : List ℕ) : Type 0 where
  pub eight_is : length path ≡ 8
  pub way_is : way_to m key ≡ leaf (get_or path 0 0) (take (levels_above m) (drop 1 path))
