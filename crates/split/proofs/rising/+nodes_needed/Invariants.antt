use lib.ListN.{length}
use Rattle.split.proofs.rising.+nodes_needed.Given as goal

abbrev pub decreases-nodes_needed : goal.decreases-nodes_needed
decreases-nodes_needed l = length l.levels.now
