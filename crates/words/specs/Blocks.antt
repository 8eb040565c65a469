-- The runs of events that the steps of every change are made of.
use Rattle.std.specs.Prelude.{ℕ, List, [], ◌∷◌, ◌++◌, eqb, if◌then◌else◌}
use Rattle.words.specs.Pool.{line}
use Rattle.words.specs.declared.event.Event.{Event}
use Rattle.words.specs.declared.event.Event.TheVariants.{Store as store, Flush as flush, Fence as fence}

-- a word address and a value
abbrev pub Pair : Type 0
Pair = ℕ × ℕ

-- one word stored, its line flushed, a fence
abbrev pub once : ℕ → ℕ → List Event
once w v = store w v ∷ flush (line w) ∷ fence ∷ []

-- the stores of some pairs, in their order
abbrev pub stores : List Pair → List Event
stores [] = []
stores (p ∷ ps) = store p.0 p.1 ∷ stores ps

abbrev pub flushes : List ℕ → List Event
flushes [] = []
flushes (l ∷ ls) = flush l ∷ flushes ls

-- the lines of words that rise, each once
unfoldable pub lines : List Pair → List ℕ
lines [] = []
lines (p ∷ []) = line p.0 ∷ []
lines (p ∷ (q ∷ ps)) = if eqb (line p.0) (line q.0) then lines (q ∷ ps) else (line p.0 ∷ lines (q ∷ ps))

-- the stores, "then flush of the lines stored to"
unfoldable pub stored : List Pair → List Event
stored ps = stores ps ++ flushes (lines ps)

-- "each pair's store followed by a flush of its line"
unfoldable pub replay : List Pair → List Event
replay [] = []
replay (p ∷ ps) = store p.0 p.1 ∷ flush (line p.0) ∷ replay ps
