-- `pool::log_of` meets its contract: a pair a turn.
use mathlib.Core.Path.{refl, sym, ◌∙◌}
use native.Mathlib.Omega.{arith}
use lib.ListN.{take, length-drop}
use Rattle.words.specs.Pool.{pairs_at}
use Rattle.tree.specs.Header.{total_in, commit_of}
use Rattle.pool.proofs.Recovers.{test_on, test_stops, test_ends, many_pairs, log_is, log_test}
use Rattle.pool.proofs.recovering.log_of.Goals as goal

pub returns-then-pairs-gt-PAIRS_MOST : goal.returns-then-pairs-gt-PAIRS_MOST
returns-then-pairs-gt-PAIRS_MOST c = (many_pairs _ c.if-pairs-gt-PAIRS_MOST.true, refl)

pub returns-then-not-may_store : goal.returns-then-not-may_store
returns-then-not-may_store c =
    let m = c.args.pool.now in
    let all = c.as_chunks.result.0.now in
    let i = c.loop-address.address-index in
    let t = c.loop-address.invariant
    ∙ test_stops (total_in m) (take (commit_of m) all) i (omega arith) (sym c.may_store.ensures ∙ c.if-not-may_store.true) in
    (log_test m all c.as_chunks.ensures.front (omega (arith, length-drop pairs_at m)) c.if-pairs-gt-PAIRS_MOST.false t, refl)

pub loop-address-preserved : goal.loop-address-preserved
loop-address-preserved c =
    let m = c.args.pool.now in
    let log = take (commit_of m) c.as_chunks.result.0.now in
    let i = c.loop-address.address-index in
    c.loop-address.invariant
    ∙ test_on (total_in m) log i (omega arith) (sym c.may_store.ensures ∙ c.if-not-may_store.false)

pub returns : goal.returns
returns c =
    let m = c.args.pool.now in
    let all = c.as_chunks.result.0.now in
    let e = c.as_chunks.ensures.front in
    let i = c.loop-address.address-index in
    let room = length-drop pairs_at m in
    let t = c.loop-address.invariant ∙ test_ends (total_in m) (take (commit_of m) all) i (omega arith) in
    (log_test m all e (omega (arith, room)) c.if-pairs-gt-PAIRS_MOST.false t, log_is m all e (omega (arith, room)))
