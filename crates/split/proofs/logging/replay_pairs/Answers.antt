-- A loop over the pairs, a store and a flush a turn.
use native.Mathlib.Omega.{arith}
use Rattle.words.proofs.Written.{wrote_append}
use Rattle.split.proofs.Loops.{left_on, left_none}
use Rattle.split.proofs.Logs.{near_at, replay_turn, replay_end}
use Rattle.split.proofs.logging.replay_pairs.Goals as goal

pub store-requires : goal.store-requires
store-requires c =
    let l = c.loop-address in
    (omega arith, near_at c.args.pairs.now l.address-index (omega arith) c.requires.1)

pub flush-requires : goal.flush-requires
flush-requires c =
    let l = c.loop-address in
    let h = near_at c.args.pairs.now l.address-index (omega arith) c.requires.1 in
    (omega (arith, c.store.ensures.next), rw c.line.ensures (omega arith))

pub loop-address-preserved : goal.loop-address-preserved
loop-address-preserved c =
    let l = c.loop-address in
    let w = wrote_append c.store.ensures (rw c.line.ensures at c.flush.ensures) in
    (omega (arith, w.next), left_on (rw (replay_turn c.args.pairs.now l.address-index (omega arith)) at l.invariant.1) w)

pub returns : goal.returns
returns c =
    let l = c.loop-address in
    left_none (rw (replay_end c.args.pairs.now l.address-index (omega arith)) at l.invariant.1)
