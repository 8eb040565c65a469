-- What the functions under format write. The promise of format does not rest on these.
use Rattle.std.specs.Prelude.{ℕ, List, [], ◌∷◌, ◌++◌, take, drop}
use Rattle.words.specs.declared.event.Event.{Event}
use Rattle.words.specs.declared.event.Event.TheVariants.{Fence as fence}
use Rattle.words.specs.Blocks.{stores, flushes, lines}
use Rattle.change.specs.Format.{fresh_words}

-- the stores of the header's words 1 to 7
abbrev pub header_events : ℕ → List Event
header_events capacity = stores (take 7 (fresh_words capacity))

-- the stores of the commit word and the empty leaf, the flushes of all lines stored to, and a fence
abbrev pub leaf_events : List Event
leaf_events = stores (drop 7 (fresh_words 0)) ++ (flushes (lines (fresh_words 0)) ++ (fence ∷ []))
