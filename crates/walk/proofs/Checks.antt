-- The walk from the root and its end, return by return.
use Prim.Native.Nat.{ℕ, ◌≤◌}
use mathlib.Core.Path.{◌≡◌, refl, sym}
use mathlib.Core.List.{List, ◌++◌}
use mathlib.Core.Bool.{Bool, true, false, not}
use native.Mathlib.Omega.{arith}
use lib.Dec.{eqb}
use lib.ListN.{length, take, drop, replicate, length-append, length-replicate}
use lib.Seq.{length-take-le}
use Rattle.std.specs.Prelude.{if◌then◌else◌, Ok, Err}
use Rattle.words.specs.Pool.{words_least}
use Rattle.words.specs.Event.{at}
use Rattle.node.specs.View.{link_at}
use Rattle.tree.specs.Header.{capacity_of, used_of, height_of}
use Rattle.tree.specs.Kids.{root_kid, inner_least}
use Rattle.tree.specs.Path.{levels_above}
use Rattle.tree.specs.Check as t
use Rattle.tree.proofs.Form.{Form, form, Counts, counts}
use Rattle.change.specs.declared.Checked.{Checked}
use Rattle.change.specs.declared.Checked.TheVariants as checked
use Rattle.change.specs.Check.{walked}
use Rattle.walk.specs.declared.walking.Seen.{Seen}
use Rattle.tree.specs.declared.descend.Fault.{Fault}
use Rattle.walk.specs.inner.Checking.{seen_with, Ready, Walks, Passed}
use Rattle.walk.proofs.Marks.{unmarked_most}

-- the tests at the end leave the marks as they are
end_marks : (m : List ℕ) (s : t.Seen) → t.marks_after (t.ended m s) ≡ s.marks
end_marks m s = go (eqb (at m (link_at s.last)) 0) (eqb s.nodes (used_of m))
  where
    go : (last all : Bool)
        → t.marks_after (if not last then t.fault s.last s.marks else if not all then t.fault 0 s.marks else t.going s) ≡ s.marks
    go false all = refl
    go true false = refl
    go true true = refl

-- the first n marks, filled with 0, and the others
pub cleared : (n : ℕ) (marks : List ℕ) {part : List ℕ} → n ≤ length marks → part ≡ replicate (length (take n marks)) 0
    → part ++ drop n marks ≡ t.zeroed n marks
cleared n marks long e = rw (e, length-take-le n marks long)

abbrev none : Seen
none = record { last = 0; nodes = 0; records = 0 }

module _ {m marks : List ℕ} (passed : Passed m marks) where
  formed : Form m
  formed = form m passed.form

  counted : Counts m
  counted = counts m passed.counts

  pub least : words_least ≤ length m
  least = formed.least

  pub some_levels : 1 ≤ height_of m
  some_levels = counted.height.0

  module _ {zeros : List ℕ} (zero : zeros ≡ t.zeroed (capacity_of m) marks) where
    pub first_ready : Ready m (seen_with none zeros)
    first_ready =
        record {
          room = record { used_in = counted.used.1; capacity_in = formed.capacity.1; total_in = rw (← formed.total) formed.room };
          marks_in = rw (zero, length-append, length-replicate) (omega arith);
          last_in = omega arith;
          nodes_in = omega (arith, unmarked_most (capacity_of m) zeros);
          records_in = omega arith;
        }

    abbrev way : t.Walk
    way = t.node_walk (levels_above m) m inner_least 0 (root_kid m) (seen_with none zeros)

    module _ {left : List ℕ} where
      pub tree_stops : {e : Fault} → Walks m way (Err e) left
          → (checked.Fault e.node ≡ walked (t.walk m marks)) × (left ≡ t.marks_after (t.walk m marks))
      unfolding t.walk
      tree_stops x = rw (← zero, ← x.walk_is) (refl, refl)

      pub tree_ends : {s : Seen} → Walks m way (Ok s) left → {a : Checked} → ((l : List ℕ) → a ≡ walked (t.ended m (seen_with s l)))
          → (a ≡ walked (t.walk m marks)) × (left ≡ t.marks_after (t.walk m marks))
      unfolding t.walk
      tree_ends {s} x f = rw (← zero, ← x.walk_is) (f left, sym (end_marks m (seen_with s left)))
