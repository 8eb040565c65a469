-- Four calls, one after the other.
use borrow.Author.Rules.{rules}
use Rattle.words.specs.Blocks.{lines, stored}
use Rattle.words.proofs.Written.{wrote_append}
use Rattle.change.specs.Format.{format_events}
use Rattle.pool.proofs.formatting.format_events.Goals as goal

pub once-requires-2 : goal.once-requires-2
unfolding lines
once-requires-2 c = search rules

pub returns : goal.returns
unfolding format_events stored lines
returns c =
    wrote_append c.once.ensures (wrote_append c.fresh_header.ensures (wrote_append c.fresh_leaf.ensures c.once-2.ensures))
