-- Demand 3 of the pools that the desks serve: what a pool means is said by the crates below, and enters here, once.
use Rattle.std.specs.Prelude.{◌<◌}
use Rattle.node.specs.View.{no_end}
use Rattle.tree.specs.WellFormed.{WellFormed}
use Rattle.tree.specs.Map.{map_of}
use Rattle.change.specs.Recover.{recovery}
use Rattle.change.specs.Room.{Crowded}
use Rattle.change.specs.Calls.{key_of}
use Rattle.pool.specs.Demand2.{Accepted}
use Rattle.desk.specs.Rows.{House, our_way}
use Rattle.desk.specs.Demand3.{Pools, Ready, Demand3}

abbrev pub our_pools : Pools
our_pools = record {
  WellFormed = WellFormed;
  map_of = map_of;
  recovery = recovery;
  Accepts = Accepted;
  Lacks = Crowded;
  Fits = λ q. key_of q < no_end;
}

-- the demand: every house of 1 to 16 desks on a well-formed pool
abbrev pub TheDemand3 : Type 0
TheDemand3 = (h : House) → Ready our_pools h → Demand3 our_way our_pools h
