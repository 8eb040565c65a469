-- Two stores.
use Rattle.words.proofs.Written.{wrote_append}
use Rattle.split.proofs.building.write_entry.Goals as goal

pub returns : goal.returns
returns c =
    wrote_append (rw c.key_at.ensures at c.store.ensures) (rw c.value_at.ensures at c.store-2.ensures)
