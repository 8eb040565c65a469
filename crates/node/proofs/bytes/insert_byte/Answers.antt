-- `node::insert_byte` meets its contract.
use Prim.Native.Nat.{◌*◌}
use native.Mathlib.Omega.{arith}
use Rattle.node.proofs.Joins.{inserted}
use Rattle.node.proofs.Digits.{bytes_put_in}
use Rattle.node.proofs.bytes.insert_byte.Goals as goal

pub returns : goal.returns
returns c =
    rw (c.low_bytes.ensures, inserted (8 * c.args.i) (omega arith) c.requires.2 c.requires.1)
    (λ n h. bytes_put_in c.args.i n c.args.w c.args.b c.requires.1 h)
