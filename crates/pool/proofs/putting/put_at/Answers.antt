-- `pool::put_at` meets its contract: the key is there, or the leaf has room for it, or is full.
use native.Mathlib.Omega.{arith}
use borrow.Author.Rules.{rules}
use Rattle.tree.proofs.Leaves.{placed, rank_there, rank_few}
use Rattle.pool.proofs.Planning.{planned_answer}
use Rattle.pool.proofs.Gates.{found_leaf}
use Rattle.pool.proofs.Fulls.{full_at}
use Rattle.pool.proofs.Puts.{leaf_says, put_present, put_room}
use Rattle.pool.proofs.putting.put_at.Goals as goal

pub replace-requires : goal.replace-requires
replace-requires c =
    let a = found_leaf c.requires.0 in
    record {
      room = (c.new-list.ensures.events, a.named.inside.most);
      rank_bound = (rank_there a c.in-Ok.is, a.named.few, a.named.low);
    }

pub returns-in-Ok : goal.returns-in-Ok
returns-in-Ok c =
    let a = found_leaf c.requires.0 in
    let n = c.new-list.ensures in
    let e = put_present a _ c.in-Ok.is in
    let says = leaf_says a (placed a c.in-Ok.is).0 in
    let both = planned_answer _ _ _ e (c.replace.ensures _ _ says) n.list n.events (search rules) in
    record { answer = both.0; list = both.1 }

pub fill-requires : goal.fill-requires
fill-requires c =
    let a = found_leaf c.requires.0 in
    (c.new-list-in-Err.ensures.events, a.named.inside.most, rank_few a c.in-Err.is, omega arith)

pub returns-in-Err : goal.returns-in-Err
returns-in-Err c =
    let a = found_leaf c.requires.0 in
    let n = c.new-list-in-Err.ensures in
    let e = put_room a _ c.in-Err.is (omega arith) in
    let says = leaf_says a (placed a c.in-Err.is).0 in
    let both = planned_answer _ _ _ e (c.fill.ensures _ says) n.list n.events (search rules) in
    record { answer = both.0; list = both.1 }

pub put_full-requires : goal.put_full-requires
put_full-requires c =
    let a = found_leaf c.requires.0 in
    (full_at c.requires.0 c.in-Err-2.is (omega (arith, a.named.few)), c.requires.1)
