-- looking from here on finds what is to be found
use mathlib.Core.Path.{◌≡◌}
use Rattle.desk.proofs.Looking.{run}
use Rattle.desk.proofs.turning.first_full.Given as goal

abbrev pub invariant-loop-i : goal.invariant-loop-i
invariant-loop-i g l = let ds = g.L.Lent.reads l.desks in run ds l.i l.to ≡ run ds l.from l.to
