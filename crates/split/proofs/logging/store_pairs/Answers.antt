-- A loop over the pairs, two stores a turn.
use native.Mathlib.Omega.{arith}
use Rattle.words.proofs.Written.{wrote_append}
use Rattle.split.proofs.Loops.{left_on, left_none}
use Rattle.split.proofs.Logs.{log_turn, log_end}
use Rattle.split.proofs.logging.store_pairs.Goals as goal

pub loop-address-preserved : goal.loop-address-preserved
loop-address-preserved c =
    let l = c.loop-address in
    let w = wrote_append c.store.ensures c.store-in-loop-address.ensures in (
      omega arith,
      omega (arith, w.next),
      left_on (rw (log_turn c.args.pairs.now l.address-index (omega arith) l.word) at l.invariant.2) w,
    )

pub returns : goal.returns
returns c =
    let l = c.loop-address in
    left_none (rw (log_end c.args.pairs.now l.address-index (omega arith) l.word) at l.invariant.2)
