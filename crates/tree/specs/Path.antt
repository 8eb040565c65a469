-- The way down from the root to the leaf of a key, with each test of refusal 4, and where it failed.
use Rattle.std.specs.Prelude.{ℕ, zero, suc, ◌-◌, List, [], ◌∷◌, not, if◌then◌else◌}
use Rattle.words.specs.Tests.{within}
use Rattle.node.specs.View.{view}
use Rattle.tree.specs.Header.{used_of, height_of, counts_agree}
use Rattle.tree.specs.Kids.{Kid, pick, root_kid, leaf_least, inner_least, fits}

-- the node at fault, 0 for the header; or the leaf, and the nodes above it, nearest first
pub data Way : Type 0 where
  failed : ℕ → Way
  leaf : ℕ → List ℕ → Way

-- the nearest of the nodes above, 0 for none
abbrev pub parent : List ℕ → ℕ
parent [] = 0
parent (k ∷ ks) = k

-- refusal 4, "on the path a child out of 1..used, an unsound node or a key outside its node's cover": from child c, with some levels
-- left below it. A number out of range is its parent's fault, the rest the node's own.
unfoldable pub way : ℕ → List ℕ → ℕ → Kid → List ℕ → Way
way zero m key c above =
    if not (within 1 c.number (used_of m)) then failed (parent above)
    else if not (fits leaf_least c (view m c.number)) then failed c.number
    else leaf c.number above
way (suc levels) m key c above =
    let u = view m c.number in
    let down = way levels m key (pick key c u) (c.number ∷ above) in
    if not (within 1 c.number (used_of m)) then failed (parent above)
    else if not (fits inner_least c u) then failed c.number
    else down

-- "all leaves are at the same depth (height 1 to 8, a lone root leaf being 1)": the levels above the leaves
abbrev pub levels_above : List ℕ → ℕ
levels_above m = height_of m - 1

-- all of refusal 4 but its last case: the header, then the path
unfoldable pub way_to : List ℕ → ℕ → Way
way_to m key =
    let down = way (levels_above m) m key (root_kid m) [] in
    if not (counts_agree m) then failed 0 else down
