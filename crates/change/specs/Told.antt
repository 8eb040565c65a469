-- What document 01 tells of each call beside its refusals, on whatever memory m, with whatever list l and marks g: the event counts of
-- the changes that need no split, what recover answers, and what check answers.
use Rattle.std.specs.Prelude.{ℕ, ◌+◌, ◌*◌, ◌≤◌, ◌≡◌, List, false, length, Ok, Err}
use Rattle.words.specs.Pool.{pairs_at}
use Rattle.words.specs.declared.refusal.Refusal.{Refusal}
use Rattle.node.specs.View.{view}
use Rattle.tree.specs.Header.{commit_of, used_of}
use Rattle.tree.specs.Path.{leaf, way_to}
use Rattle.tree.specs.WellFormed.{WellFormed}
use Rattle.tree.specs.Map.{records_of}
use Rattle.change.specs.declared.Outcome.TheVariants.{New, Replaced, Removed, Absent}
use Rattle.change.specs.declared.Recovery.TheVariants.{Clean, Recovered}
use Rattle.change.specs.declared.Checked.TheVariants as c
use Rattle.change.specs.Gate as g
use Rattle.change.specs.Steps.{full}
use Rattle.change.specs.Plan.{log_finished}
use Rattle.change.specs.Format.{format}
use Rattle.change.specs.Recover.{log_pairs, recover}
use Rattle.change.specs.Delete.{delete}
use Rattle.change.specs.Put.{put}
use Rattle.change.specs.Calls.{check_answer}

-- the counts, wherever the call is answered so; the list is the events themselves, and its length the count (`serve_counted`)
pub record Counts : Type 0 where
  -- "Put, key present: store the value, flush, fence."
  pub replaced : (room : ℕ) (m : List ℕ) (key value : ℕ) → (put room m key value).answer ≡ Ok Replaced
      → length (put room m key value).events ≡ 3
  -- "Put, leaf not full: .. 7 events": the way down to the key ends at the leaf k, which has room
  pub filled : (room : ℕ) (m : List ℕ) (key value k : ℕ) (above : List ℕ) → (put room m key value).answer ≡ Ok New
      → way_to m key ≡ leaf k above → full (view m k) ≡ false → length (put room m key value).events ≡ 7
  -- "Delete: new slot word, flush, fence."
  pub removed : (room : ℕ) (m : List ℕ) (key : ℕ) → (delete room m key).answer ≡ Ok Removed → length (delete room m key).events ≡ 3
  -- "An absent key answers Absent with no events."
  pub absent : (room : ℕ) (m : List ℕ) (key : ℕ) → (delete room m key).answer ≡ Ok Absent → length (delete room m key).events ≡ 0
  -- "Format: .. 20 events."
  pub formatted : (room size capacity events : ℕ) → (format room size capacity).answer ≡ Ok events
      → (events ≡ 20) × (length (format room size capacity).events ≡ 20)

-- "Recover: with commit word 0, Clean, no events. Otherwise (d) and (e) from the log: Recovered with the pair count c, 2c + 4 events."
pub data Recovers (room : ℕ) (m : List ℕ) : Type 0 where
  clean : commit_of m ≡ 0 → recover room m ≡ g.quiet Clean → Recovers room m
  recovered : 1 ≤ commit_of m → (recover room m).answer ≡ Ok (Recovered (commit_of m) (2 * commit_of m + 4))
      → (recover room m).events ≡ log_finished (log_pairs (commit_of m) pairs_at m)
      → length (recover room m).events ≡ 2 * commit_of m + 4 → Recovers room m
  refused : (why : Refusal) → recover room m ≡ g.refused why → Recovers room m

-- "It answers Sound (nodes, records), exactly if the pool is well formed, or Fault with the first met": where it is not refused, one of
-- the two. Nodes are those in use, and records those of the map.
pub data Checks (m g : List ℕ) : Type 0 where
  sound : WellFormed m → check_answer m g ≡ Ok (c.Sound (used_of m) (length (records_of m))) → Checks m g
  fault : (WellFormed m → ⊥) → (node : ℕ) → check_answer m g ≡ Ok (c.Fault node) → Checks m g
  refused : (why : Refusal) → check_answer m g ≡ Err why → Checks m g

-- all of it
pub record Told : Type 0 where
  pub counts : Counts
  pub recovers : (room : ℕ) (m : List ℕ) → Recovers room m
  pub checks : (m g : List ℕ) → Checks m g
