-- `pool::fetch` meets its contract: each return goes by the gate, and by whether the key is there.
use Rattle.tree.proofs.Kids.{name_low}
use Rattle.tree.proofs.Leaves.{rank_there}
use Rattle.pool.proofs.Gates.{found_leaf}
use Rattle.pool.proofs.Fetches.{fetch_absent, fetch_found}
use Rattle.pool.proofs.fetching.fetch.Goals as goal

pub returns-in_default : goal.returns-in_default
returns-in_default c = fetch_absent _ _ c.in_ok-seat.ensures c.in_default.is

pub name-entry-requires : goal.name-entry-requires
name-entry-requires c =
    let a = found_leaf c.in_ok-seat.ensures in
    (rank_there a c.in-Ok.is, a.named.few)

pub record_value-requires : goal.record_value-requires
record_value-requires c =
    let a = found_leaf c.in_ok-seat.ensures in
    (a.named.inside, name_low _ _ _ a.named _ (rank_there a c.in-Ok.is) c.name-entry.ensures)

pub returns : goal.returns
returns c = fetch_found _ _ c.in_ok-seat.ensures c.in-Ok.is c.name-entry.ensures c.record_value.ensures
