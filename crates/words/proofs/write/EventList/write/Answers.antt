-- The event is one.
use mathlib.Core.Path.{refl}
use Rattle.words.proofs.Written.{wrote_one}
use Rattle.words.proofs.write.EventList.write.Goals as goal

pub returns : goal.returns
returns c =
    let two = c.words.ensures in
    wrote_one c.args.event refl refl (rw (two.first, two.second))
