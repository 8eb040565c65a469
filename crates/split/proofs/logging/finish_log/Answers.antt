-- Three calls, one after the other.
use native.Mathlib.Omega.{arith}
use Rattle.words.proofs.Blocks.{length_replay}
use Rattle.split.specs.inner.Pairs.{pairs_of}
use Rattle.split.proofs.Notes.{length_pairs}
use Rattle.split.proofs.Logs.{finished}
use Rattle.split.proofs.logging.finish_log.Goals as goal

pub fence-requires : goal.fence-requires
fence-requires c =
    let qs = c.args.pairs.now in
    omega (arith, c.replay_pairs.ensures.next, length_replay (pairs_of qs), length_pairs qs)

pub once-requires : goal.once-requires
once-requires c =
    let qs = c.args.pairs.now in
    (omega (arith, c.replay_pairs.ensures.next, c.fence.ensures.next, length_replay (pairs_of qs), length_pairs qs), omega arith)

pub returns : goal.returns
returns c = finished _ c.replay_pairs.ensures c.fence.ensures c.once.ensures
