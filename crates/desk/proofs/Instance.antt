-- Demand 3 of houses that there are: desks on 01's pool of seven records. So the demand is not empty.
use Prim.Native.Nat.{ℕ, zero, suc, ◌<◌}
use mathlib.Core.Path.{◌≡◌}
use mathlib.Core.List.{[], ◌∷◌}
use native.Mathlib.Omega.{arith}
use lib.ListN.{replicate, length-replicate}
use Rattle.std.specs.Prelude.{None, Some}
use Rattle.words.specs.Pool.{list_words}
use Rattle.node.specs.View.{no_end}
use Rattle.change.specs.declared.Request.{Request}
use Rattle.change.specs.declared.Request.TheVariants.{Put, Fetch}
use Rattle.change.specs.Calls.{key_of}
use Rattle.change.specs.Sums.{seven}
use Rattle.pool.proofs.Instance.{seven_well_formed}
use Rattle.desk.specs.Desk.{held}
use Rattle.desk.specs.Rows.{our_way, House}
use Rattle.desk.specs.Demand3.{Ready, Demand3}
use Rattle.desk.specs.OurPools.{our_pools}
use Rattle.desk.proofs.OurPools.{demand_3}

-- three desks: a put that splits the full leaf waits, and a fetch; nobody was served yet
abbrev three : House
three = record { pool = seven 3; desks = Some (Put 80 80) ∷ None ∷ Some (Fetch 30) ∷ []; last = 0 }

fit : (j : ℕ) (q : Request) → held three.desks j ≡ Some q → key_of q < no_end
fit zero q e = cc
fit (suc zero) q e = let i : Put 80 80 ≡ q = cc in rw (← i) (omega arith)
fit (suc (suc zero)) q e = cc
fit (suc (suc (suc zero))) q e = let i : Fetch 30 ≡ q = cc in rw (← i) (omega arith)
fit (suc (suc (suc (suc j)))) q e = cc

pub ready : Ready our_pools three
ready = record {
  good = seven_well_formed (replicate list_words 0) (length-replicate {A = ℕ} list_words 0) 3 (omega arith) (omega arith);
  some_desks = omega arith;
  not_many = omega arith;
  last_is = omega arith;
  fit = fit;
}

pub served : Demand3 our_way our_pools three
served = demand_3 three ready
