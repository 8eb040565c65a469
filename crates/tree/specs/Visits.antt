-- Which numbers the whole-pool check comes to: one for each time that it calls for a node. None is looked at twice.
use Rattle.std.specs.Prelude.{ℕ, zero, suc, ◌+◌, ◌-◌, ◌≤◌, ◌≡◌, List, [], ◌∷◌, ◌++◌, not, length, if◌then◌else◌}
use Rattle.words.specs.Event.{at}
use Rattle.node.specs.View.{view}
use Rattle.tree.specs.Header.{used_of}
use Rattle.tree.specs.Kids.{Kid, kids, root_kid, fits, inner_least, below_root_least}
use Rattle.tree.specs.Lists.{occ}
use Rattle.tree.specs.Path.{levels_above}
use Rattle.tree.specs.Check.{Seen, Walk, fault, going, node_seen, may_mark, node_walk, start, walk, marks_after}

-- a walk that goes on meets these next, one that has stopped none
abbrev pub onward_visits : (Seen → List ℕ) → Walk → List ℕ
onward_visits f (fault k marks) = []
onward_visits f (going s) = f s

-- "each child for a node again": what is met below each, from left to right, while the walk goes on
unfoldable pub each_visits : (Kid → Seen → Walk) → (Kid → Seen → List ℕ) → List Kid → Seen → List ℕ
each_visits node visit [] s = []
each_visits node visit (c ∷ cs) s = visit c s ++ onward_visits (each_visits node visit cs) (node c s)

-- "Check calls for a node, the node for its children": its own number first, by the tests of `node_walk`
unfoldable pub node_visits : ℕ → List ℕ → ℕ → Kid → Seen → List ℕ
node_visits zero m least c s = c.number ∷ []
node_visits (suc levels) m least c s =
    let k = c.number in
    let u = view m k in
    let node = node_walk levels m below_root_least k in
    let below = each_visits node (node_visits levels m below_root_least) (kids c u) (node_seen k s) in
    if not (may_mark m k s.marks) then k ∷ []
    else if not (fits least c u) then k ∷ []
    else k ∷ below

-- of the whole walk
unfoldable pub visits : List ℕ → List ℕ → List ℕ
visits m marks = node_visits (levels_above m) m inner_least (root_kid m) (start m marks)

-- However damaged the pool is: the numbers met are those of nodes looked at, and at most one more, at which the walk stops. The first
-- are in 1..used and none comes twice; the marks tell which they are; so the walk calls for at most used + 1 nodes.
pub record VisitedOnce (m marks : List ℕ) : Type 0 where
  pub seen : List ℕ
  pub more : List ℕ
  pub visits_are : visits m marks ≡ seen ++ more
  pub more_most : length more ≤ 1
  pub in_use : (j : ℕ) → 1 ≤ occ j seen → (1 ≤ j) × (j ≤ used_of m)
  pub once : (j : ℕ) → occ j seen ≤ 1
  pub marks_tell : (j : ℕ) → 1 ≤ j → j ≤ used_of m → at (marks_after (walk m marks)) (j - 1) ≡ occ j seen
  pub visits_most : length (visits m marks) ≤ used_of m + 1
