-- `node::remove_byte` meets its contract.
use Prim.Native.Nat.{◌*◌}
use native.Mathlib.Omega.{arith}
use Rattle.node.proofs.Joins.{lifted}
use Rattle.node.proofs.Digits.{bytes_taken_out}
use Rattle.node.proofs.bytes.remove_byte.Goals as goal

pub returns : goal.returns
returns c =
    rw (c.low_bytes.ensures, lifted (8 * c.args.i) (omega arith) c.ranges.w.fits)
    (λ n h. bytes_taken_out c.args.i n c.args.w h)
