-- A change cut short, and its recovery cut again any number of times. Each memory found is a start of its own, with one value a word:
-- "Memory found after a cut is all safe."
use Rattle.std.specs.Prelude.{ℕ, List, take}
use Rattle.words.specs.declared.event.Event.{Event}
use Rattle.words.specs.Loss.{Cut}

-- m' may be found when the power goes after n of the events es, or again and again after any number of events of the recovery of
-- what was found before. `recovery` is the events that are planned for a memory.
pub data Found (recovery : List ℕ → List Event) (m : List ℕ) (es : List Event) (n : ℕ) : List ℕ → Type 0 where
  first : {m' : List ℕ} → Cut m (take n es) m' → Found recovery m es n m'
  again : {m' m'' : List ℕ} (k : ℕ) → Found recovery m es n m' → Cut m' (take k (recovery m')) m'' → Found recovery m es n m''
