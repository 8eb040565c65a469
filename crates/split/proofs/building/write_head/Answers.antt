-- Two stores.
use Rattle.words.proofs.Written.{wrote_append}
use Rattle.split.proofs.building.write_head.Goals as goal

pub returns : goal.returns
returns c =
    wrote_append (rw (c.node_at.ensures, c.rising_names.ensures) at c.store.ensures) (rw c.link_at.ensures at c.store-2.ensures)
