-- The plan of a new root.
use Rattle.split.proofs.Levels.{crowned}
use Rattle.split.proofs.rising.crowned.Goals as goal

pub returns : goal.returns
returns c = crowned c.args.pool.now c.args.new c.new_root.ensures c.note.ensures c.note-2.ensures c.note-3.ensures
