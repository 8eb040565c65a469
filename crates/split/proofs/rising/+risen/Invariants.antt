use lib.ListN.{length}
use Rattle.split.proofs.rising.+risen.Given as goal

abbrev pub decreases-risen : goal.decreases-risen
decreases-risen l = length l.levels.now
