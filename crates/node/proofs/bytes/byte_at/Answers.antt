-- `node::byte_at` meets its contract.
use mathlib.Core.Path.{◌∙◌, sym}
use lib.Bits.{and_mask}
use Rattle.node.proofs.Digits.{bytes_at}
use borrow.Author.Rules.{rules}
use Rattle.node.proofs.bytes.byte_at.Goals as goal

pub returns : goal.returns
returns c = and_mask _ 8 ∙ sym (bytes_at 8 c.args.w c.args.i (search rules))
