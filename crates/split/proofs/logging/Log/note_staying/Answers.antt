-- By the rank, and by the kind of node.
use mathlib.Core.List.{[], append-nil}
use native.Mathlib.Omega.{arith}
use borrow.Author.Tests.{lt-ltb, le-ltb}
use lib.Dec.{ltb}
use Rattle.std.specs.Prelude.{if◌then◌else◌}
use Rattle.tree.specs.Halves.{lower}
use Rattle.change.specs.Steps.{entry_pairs}
use Rattle.split.specs.inner.Pairs.{Noted}
use Rattle.split.specs.inner.Splitting.{word_1}
use Rattle.split.proofs.Eights.{spot_low}
use Rattle.split.proofs.Levels.{stays}
use Rattle.split.proofs.logging.Log.note_staying.Goals as goal
use Rattle.split.proofs.logging.Log.note_staying.Goals.{then-eight-lt-LOWER, else-eight-lt-LOWER, in-Some, in_default}

pub note_entry-requires : goal.note_entry-requires
note_entry-requires c =
    let f = c.args.eight.now in
    (omega arith, f.opened.met.inside.most, omega (arith, spot_low f.new f.opened))

-- the new record, by its rank
entered : (c : goal.After-note-2) → let f = c.args.eight.now in
    Noted (if ltb f.rank lower then entry_pairs f.node.number f.spot f.new else []) c.args.self.now c.if-eight-lt-LOWER.self
entered c = elim c.if-eight-lt-LOWER.branch [
  | then-eight-lt-LOWER w ↦ rw (lt-ltb _ _ w.if-eight-lt-LOWER.true, w.self-is) w.note_entry.ensures
  | else-eight-lt-LOWER w ↦ rw (le-ltb _ _ w.if-eight-lt-LOWER.false) (record { pairs = rw append-nil w.self-is })
]

-- a leaf's new one
linked : (c : goal.After-note-2) → Noted (word_1 c.args.eight.now.node.number c.args.next) c.if-eight-lt-LOWER.self c.match-next.self
linked c = elim c.match-next.branch [
  | in-Some w ↦ rw (w.in-Some.is, w.self-is) (rw w.link_at.ensures at w.note.ensures)
  | in_default w ↦ rw w.in_default.is (record { pairs = rw append-nil w.self-is })
]

pub returns : goal.returns
returns c =
    let f = c.args.eight.now in
    stays f.new c.args.next f.opened (entered c) (linked c) c.slot_of.ensures (rw c.node_at.ensures at c.note-2.ensures)
