-- Five calls, one after the other; the bound on the events is that of all of them.
use Prim.Native.Nat.{◌+◌, ◌/◌}
use native.Mathlib.Omega.{arith}
use lib.ListN.{take}
use Rattle.split.specs.inner.Pairs.{pairs_of}
use Rattle.split.proofs.Notes.{counted, length_pairs}
use Rattle.split.proofs.Logs.{logged, stored_events, flushed_events}
use Rattle.split.proofs.logging.Log.write.Goals as goal

pub store_pairs-requires : goal.store_pairs-requires
store_pairs-requires c =
    let s = c.self.inside in
    let n = counted s.pairs s.count (omega arith) c.self.view_is in
    (omega (arith, n), omega (arith, n))

pub flush_log-requires : goal.flush_log-requires
flush_log-requires c =
    let s = c.self.inside in
    let n = counted s.pairs s.count (omega arith) c.self.view_is in
    omega (arith, n, stored_events (take s.count s.pairs) c.store_pairs.ensures)

pub fence-requires : goal.fence-requires
fence-requires c =
    let s = c.self.inside in
    let n = counted s.pairs s.count (omega arith) c.self.view_is in
    let e = flushed_events (take s.count s.pairs) c.store_pairs.ensures (s.count / 4 + 1) c.flush_log.ensures in
    omega (arith, n, e)

pub once-requires : goal.once-requires
once-requires c =
    let s = c.self.inside in
    let n = counted s.pairs s.count (omega arith) c.self.view_is in
    let e = flushed_events (take s.count s.pairs) c.store_pairs.ensures (s.count / 4 + 1) c.flush_log.ensures in
    (omega (arith, n, e, c.fence.ensures.next), omega arith)

pub finish_log-requires : goal.finish_log-requires
finish_log-requires c =
    let s = c.self.inside in
    let n = counted s.pairs s.count (omega arith) c.self.view_is in
    let e = flushed_events (take s.count s.pairs) c.store_pairs.ensures (s.count / 4 + 1) c.flush_log.ensures in
    (omega (arith, n, e, c.fence.ensures.next, c.once.ensures.next), c.self.invariant.1)

pub returns : goal.returns
returns c =
    let s = c.self.inside in
    let qs = take s.count s.pairs in
    let n = counted s.pairs s.count (omega arith) c.self.view_is in
    let long = length_pairs qs in
    rw (← c.self.view_is)
    (logged (pairs_of qs) (omega (arith, n, long)) (omega (arith, n)) c.store_pairs.ensures c.flush_log.ensures
    c.fence.ensures c.once.ensures c.finish_log.ensures)
