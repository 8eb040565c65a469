-- `pool::pass_pool` meets its contract.
use native.Mathlib.Omega.{arith}
use Rattle.tree.proofs.Form.{form}
use Rattle.pool.proofs.Gates.{a_pool}
use Rattle.pool.proofs.gate.pass_pool.Goals as goal

pub bounds-pool : goal.bounds-pool
bounds-pool c = let h = (form _ (a_pool _ c.in_ok-pass_form.ensures)).least in omega arith
