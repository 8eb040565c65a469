-- A node that is good has a place for the key.
use Rattle.node.proofs.Views.{good_parts, good_sound}
use Rattle.split.proofs.opening.rank_of.Goals as goal

pub place-requires : goal.place-requires
place-requires c = record {
  sound = good_sound _ (good_parts c.requires.good_is);
  after_value = (rw c.unwrap-seen.ensures at c.look.ensures).after_is;
}
