-- `node::with_mark` meets its contract.
use Rattle.node.proofs.Masks.{marked_with}
use Rattle.node.proofs.marks.with_mark.Goals as goal

pub returns : goal.returns
returns c = λ x. marked_with c.args.seen c.args.e x c.requires
