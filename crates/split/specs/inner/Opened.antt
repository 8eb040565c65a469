-- A node that was met, and the eight records of a full one with a new one.
use Rattle.std.specs.Prelude.{ℕ, ◌≡◌, List, true}
use Rattle.node.specs.Lists.{insert}
use Rattle.node.specs.Slot.{bytes}
use Rattle.node.specs.View as views
use Rattle.node.specs.View.{view, good, no_end}
use Rattle.node.specs.inner.Looked.{Inside}
use Rattle.tree.specs.Kids.{leaf_least}
use Rattle.change.specs.Steps.{full, staying_spot}

-- a node that the way down met: it lies inside the memory and is sound, whatever it covers
pub record Met (m : List ℕ) (k : ℕ) : Type 0 where
  pub inside : Inside m k
  pub good_is : good leaf_least 0 no_end (view m k) ≡ true

-- full node k of m, with a new record of a key: the key's rank, the spot that it takes if it stays, and the eight names with that spot
pub record Opened (m : List ℕ) (k rank names spot key : ℕ) : Type 0 where
  pub met : Met m k
  pub full_is : full (view m k) ≡ true
  pub rank_is : rank ≡ views.rank (view m k) key
  pub spot_is : spot ≡ staying_spot (view m k)
  pub names_are : bytes 8 names ≡ insert rank spot (view m k).named
