-- `node::low_bytes` meets its contract.
use Prim.Native.Nat.{◌*◌}
use native.Mathlib.Omega.{arith}
use Rattle.node.proofs.Joins.{low_mask}
use Rattle.node.proofs.bytes.low_bytes.Goals as goal

pub returns : goal.returns
returns c = low_mask _ (8 * c.args.n) (omega arith)
