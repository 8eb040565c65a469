-- Refusal 5: "a split needs more nodes than capacity − used".
use Rattle.std.specs.Prelude.{ℕ, ◌-◌, ◌<◌, ◌≡◌, List, ◌∷◌, true}
use Rattle.std.proofs.Math.Option.{none}
use Rattle.node.specs.View.{view}
use Rattle.tree.specs.Header.{capacity_of, used_of}
use Rattle.tree.specs.Path.{leaf, way_to}
use Rattle.tree.specs.Map.{map_of}
use Rattle.change.specs.declared.Request.{Request}
use Rattle.change.specs.declared.Request.TheVariants.{Put, Fetch, Delete}
use Rattle.change.specs.Steps.{full}
use Rattle.change.specs.Put.{needed}

-- an absent key whose leaf is full, and whose split needs more nodes than are left
pub record LacksRoom (m : List ℕ) (key : ℕ) : Type 0 where
  pub node : ℕ
  pub above : List ℕ
  pub way : way_to m key ≡ leaf node above
  pub absent : map_of m key ≡ none
  pub is_full : full (view m node) ≡ true
  pub short : capacity_of m - used_of m < needed m (node ∷ above)

-- a request that is refused for room: only a put may be
abbrev pub Crowded : List ℕ → Request → Type 0
Crowded m (Put key value) = LacksRoom m key
Crowded m (Fetch key) = ⊥
Crowded m (Delete key) = ⊥
