-- Document 01, "What the box holds": "A pool is a map from 64-bit keys to 64-bit values".
use Rattle.std.specs.Prelude.{ℕ, List, [], ◌∷◌, eqb, if◌then◌else◌}
use Rattle.std.proofs.Math.Option.{Option, none, some}
use Rattle.node.specs.View.{Record, view}
use Rattle.tree.specs.Kids.{root_kid}
use Rattle.tree.specs.Path.{levels_above}
use Rattle.tree.specs.Lists.{gather}
use Rattle.tree.specs.WellFormed.{Views, leaves}

-- a map from keys to values
abbrev pub Map : Type 0
Map = ℕ → Option ℕ

-- what a list of records holds under a key
unfoldable pub find : ℕ → List Record → Option ℕ
find key [] = none
find key (r ∷ rs) = let further = find key rs in if eqb key r.0 then some r.1 else further

-- the records of some leaves
abbrev pub records_in : Views → List ℕ → List Record
records_in U ks = gather (λ (k : ℕ). (U k).records) ks

-- the records of a pool, over its leaves from left to right
abbrev pub records_of : List ℕ → List Record
records_of m = records_in (view m) (leaves (view m) (levels_above m) (root_kid m))

-- the map that a pool is
abbrev pub map_of : List ℕ → Map
map_of m key = find key (records_of m)
