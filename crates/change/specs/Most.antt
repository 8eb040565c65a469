-- Document 01, "Most events for l split levels".
use Rattle.std.specs.Prelude.{ℕ, suc, ◌+◌, ◌-◌, ◌*◌, ◌/◌, ◌≤◌, ◌≡◌, List, [], ◌∷◌, map, true, length, if◌then◌else◌, Ok}
use Rattle.words.specs.Lists.{count_from}
use Rattle.words.specs.Pool.{list_words, events_most}
use Rattle.node.specs.Lists.{all_below}
use Rattle.node.specs.View.{Record, view, no_end}
use Rattle.tree.specs.Path.{leaf, way_to}
use Rattle.change.specs.declared.Request.{Request}
use Rattle.change.specs.declared.Outcome.TheVariants.{New}
use Rattle.change.specs.Steps.{full}
use Rattle.change.specs.Plan.{plan_events}
use Rattle.change.specs.Put.{split, needed}
use Rattle.change.specs.Recover.{recover}
use Rattle.change.specs.Format.{format}
use Rattle.change.specs.Calls.{put_answer, serve}

-- the pairs of a split of l levels, s of which keep their new record, with r new roots (0 or 1)
abbrev pub pairs_of : ℕ → ℕ → ℕ → ℕ
pairs_of l s r = l + 2 * s + 5 - r

-- and its events
abbrev pub events_of : ℕ → ℕ → ℕ → ℕ
events_of l s r = 9 * l + 12 + 5 * r + 4 * pairs_of l s r + pairs_of l s r / 4

-- the most: each level keeps its new record
abbrev pub most : ℕ → ℕ → ℕ
most r l = events_of l l r

-- the table for l of 1 to 7: "root kept"
abbrev pub root_kept : List ℕ
root_kept = 55 ∷ 76 ∷ 98 ∷ 120 ∷ 142 ∷ 163 ∷ 185 ∷ []

-- the table for l of 1 to 7: "new root"
abbrev pub new_root : List ℕ
new_root = 55 ∷ 77 ∷ 99 ∷ 121 ∷ 142 ∷ 164 ∷ 186 ∷ []

-- the levels of a path, from the leaf up, that a split of its leaf splits: the full ones before the first that is not
unfoldable pub split_levels : List ℕ → List ℕ → ℕ
split_levels m [] = 0
split_levels m (k ∷ above) = let more = split_levels m above in if full (view m k) then suc more else 0

-- 1 where it makes a new root, 0 where the root is kept
abbrev pub new_roots : List ℕ → List ℕ → ℕ
new_roots m path = needed m path - split_levels m path

-- what the split of a full leaf k plans, on whatever memory: s of its l levels keep their new record
pub record Counted (m : List ℕ) (k : ℕ) (above : List ℕ) (r : Record) : Type 0 where
  pub staying : ℕ
  pub few : staying ≤ split_levels m (k ∷ above)
  pub nodes : length (split m k above r).nodes ≡ needed m (k ∷ above)
  pub pairs : length (split m k above r).pairs ≡ pairs_of (split_levels m (k ∷ above)) staying (new_roots m (k ∷ above))
  pub events :
      length (plan_events (split m k above r)) ≡ events_of (split_levels m (k ∷ above)) staying (new_roots m (k ∷ above))

-- some call of put splits l levels, makes r new roots and plans so many events. The memory is one of 64-bit words, and a pool as far as
-- put looks at it: the header, the commit word and each node on the key's path pass every test of the refusals. It need not be a
-- well-formed pool: nothing is said of the children off the path.
pub record Reached (r l events : ℕ) : Type 0 where
  pub memory : List ℕ
  pub key : ℕ
  pub value : ℕ
  pub words : all_below no_end (key ∷ value ∷ memory) ≡ true
  pub node : ℕ
  pub above : List ℕ
  pub way : way_to memory key ≡ leaf node above
  pub levels : split_levels memory (node ∷ above) ≡ l
  pub roots : new_roots memory (node ∷ above) ≡ r
  -- with every list that is long enough, the call answers new and this count of events
  pub call : (list : List ℕ) → list_words ≤ length list
      → put_answer memory list key value ≡ Ok (record { outcome = New; events = events })

-- the table says the most: the formula gives it, no split plans more, and for each number there is a call of put that plans so many
pub record Most : Type 0 where
  pub kept_row : map (most 0) (count_from 1 7) ≡ root_kept
  pub new_row : map (most 1) (count_from 1 7) ≡ new_root
  pub no_more : (m : List ℕ) (k : ℕ) (above : List ℕ) (r : Record) → full (view m k) ≡ true
      → length (plan_events (split m k above r)) ≤ most (new_roots m (k ∷ above)) (split_levels m (k ∷ above))
  pub reached : (r l : ℕ) → r ≤ 1 → 1 ≤ l → l ≤ 7 → Reached r l (most r l)

-- no call plans more than 186 events, on whatever memory, so that a list of 372 words holds them
pub record Fits : Type 0 where
  pub serves : (room : ℕ) (m : List ℕ) (q : Request) → length (serve room m q).events ≤ events_most
  pub recovers : (room : ℕ) (m : List ℕ) → length (recover room m).events ≤ events_most
  pub formats : (room size capacity : ℕ) → length (format room size capacity).events ≤ events_most
  pub words : 2 * events_most ≤ list_words
