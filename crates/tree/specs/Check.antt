-- Document 01, "Check": the walk over the whole pool from left to right, its faults in their order, and the marks it leaves.
use Rattle.std.specs.Prelude.{ℕ, zero, suc, ◌+◌, ◌-◌, List, [], ◌∷◌, ◌++◌, Bool, not, ◌&&◌, ◌||◌, length, set, drop, replicate, eqb}
use Rattle.std.specs.Prelude.{if◌then◌else◌}
use Rattle.words.specs.Tests.{within}
use Rattle.words.specs.Event.{at}
use Rattle.node.specs.View.{View, view, link_at}
use Rattle.tree.specs.Header.{capacity_of, used_of}
use Rattle.tree.specs.Kids.{Kid, kids, root_kid, fits, leaf_least, inner_least, below_root_least}
use Rattle.tree.specs.Path.{levels_above}

-- what the walk has seen: the marks, the last leaf (0 for none), and how many nodes and records
pub record Seen : Type 0 where
  pub marks : List ℕ
  pub last : ℕ
  pub nodes : ℕ
  pub records : ℕ

-- it has stopped at a fault, with the node that it names and the marks as they are; or it goes on
pub data Walk : Type 0 where
  fault : ℕ → List ℕ → Walk
  going : Seen → Walk

-- a walk that goes on does this next
abbrev pub onward : (Seen → Walk) → Walk → Walk
onward f (fault k marks) = fault k marks
onward f (going s) = f s

-- the children from left to right: "each child for a node again, one level lower"
unfoldable pub each_child : (Kid → Seen → Walk) → List Kid → Seen → Walk
each_child node [] s = going s
each_child node (c ∷ cs) s = onward (each_child node cs) (node c s)

-- "setting byte k − 1 to 1 once number k is in 1..used and unmarked"
abbrev pub marked : ℕ → List ℕ → List ℕ
marked k marks = set marks (k - 1) 1

-- "number k is in 1..used and unmarked"
abbrev pub may_mark : List ℕ → ℕ → List ℕ → Bool
may_mark m k marks = within 1 k (used_of m) && eqb (at marks (k - 1)) 0

-- an inner node is counted
abbrev pub node_seen : ℕ → Seen → Seen
node_seen k s = record { marks = marked k s.marks; last = s.last; nodes = s.nodes + 1; records = s.records }

-- so is a leaf, with its records, and it becomes the last leaf
abbrev pub leaf_seen : ℕ → View → Seen → Seen
leaf_seen k u s =
    record { marks = marked k s.marks; last = k; nodes = s.nodes + 1; records = s.records + length u.records }

-- "on reaching a leaf, the earlier leaf that does not link to it"
abbrev pub links_to : List ℕ → ℕ → ℕ → Bool
links_to m earlier k = eqb earlier 0 || eqb (at m (link_at earlier)) k

-- the walk of child c, with some levels below it: "in this order at each number: the parent of a number out of 1..used or already
-- marked; a node unsound, outside its cover or with too few entries; on reaching a leaf, the earlier leaf that does not link to it"
unfoldable pub node_walk : ℕ → List ℕ → ℕ → ℕ → Kid → Seen → Walk
node_walk zero m least parent c s =
    let k = c.number in
    let u = view m k in
    if not (may_mark m k s.marks) then fault parent s.marks
    else if not (fits leaf_least c u) then fault k (marked k s.marks)
    else if not (links_to m s.last k) then fault s.last (marked k s.marks)
    else going (leaf_seen k u s)
node_walk (suc levels) m least parent c s =
    let k = c.number in
    let u = view m k in
    let below = each_child (node_walk levels m below_root_least k) (kids c u) (node_seen k s) in
    if not (may_mark m k s.marks) then fault parent s.marks
    else if not (fits least c u) then fault k (marked k s.marks)
    else below

-- "at the end the last leaf if its link is not 0; then 0 if nodes differ from used"
abbrev pub ended : List ℕ → Seen → Walk
ended m s =
    if not (eqb (at m (link_at s.last)) 0) then fault s.last s.marks
    else if not (eqb s.nodes (used_of m)) then fault 0 s.marks
    else going s

-- "It zeroes the first capacity bytes of lent marks"
abbrev pub zeroed : ℕ → List ℕ → List ℕ
zeroed capacity marks = replicate capacity 0 ++ drop capacity marks

-- where it begins: nothing is seen
abbrev pub start : List ℕ → List ℕ → Seen
start m marks = record { marks = zeroed (capacity_of m) marks; last = 0; nodes = 0; records = 0 }

-- the whole walk, from the root; a root out of range is refused before
unfoldable pub walk : List ℕ → List ℕ → Walk
walk m marks = onward (ended m) (node_walk (levels_above m) m inner_least 0 (root_kid m) (start m marks))

-- the marks after it
abbrev pub marks_after : Walk → List ℕ
marks_after (fault k marks) = marks
marks_after (going s) = s.marks
