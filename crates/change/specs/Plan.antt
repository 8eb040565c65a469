-- Document 01, "Events of a split, in order": a plan, and its events (a) to (e).
use Rattle.std.specs.Prelude.{ℕ, ◌+◌, List, [], ◌∷◌, ◌++◌, length}
use Rattle.words.specs.Pool.{commit_at, pairs_at}
use Rattle.words.specs.declared.event.Event.{Event}
use Rattle.words.specs.declared.event.Event.TheVariants.{Fence as fence}
use Rattle.words.specs.Blocks.{Pair, once, stored, replay}

-- what a split plans: the words of each new node from the leaf up, and the pairs of the log
pub record Plan : Type 0 where
  pub nodes : List (List Pair)
  pub pairs : List Pair

-- "(a) each new node from the leaf up: slot word, word 1, entries in order, then flush of the lines stored to"
unfoldable pub new_nodes : List (List Pair) → List Event
new_nodes [] = []
new_nodes (n ∷ ns) = stored n ++ new_nodes ns

-- each pair as two words of the log, from word w on
unfoldable pub log_words : ℕ → List Pair → List Pair
log_words w [] = []
log_words w (p ∷ ps) = (w, p.0) ∷ (w + 1, p.1) ∷ log_words (w + 2) ps

-- "(b) log pairs from log word 1: ..; flush each log line holding a pair, fence"
unfoldable pub log_written : List Pair → List Event
log_written ps = stored (log_words pairs_at ps) ++ (fence ∷ [])

-- "(c) commit word = number of pairs, flush, fence"
abbrev pub log_committed : List Pair → List Event
log_committed ps = once commit_at (length ps)

-- "(d) each pair's store followed by a flush of its line, then fence"
unfoldable pub log_replayed : List Pair → List Event
log_replayed ps = replay ps ++ (fence ∷ [])

-- "(e) commit word 0, flush, fence"
abbrev pub log_closed : List Event
log_closed = once commit_at 0

-- (d) and (e)
unfoldable pub log_finished : List Pair → List Event
log_finished ps = log_replayed ps ++ log_closed

-- (b) to (e)
unfoldable pub log_events : List Pair → List Event
log_events ps = log_written ps ++ (log_committed ps ++ log_finished ps)

-- (a) to (e)
unfoldable pub plan_events : Plan → List Event
plan_events p = new_nodes p.nodes ++ log_events p.pairs
