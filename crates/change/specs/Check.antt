-- Document 01, "Check": its answer and the marks it leaves, with refusals 2, 3, 11 and the header part of 4, in this order.
use Rattle.std.specs.Prelude.{ℕ, List, not, length, ltb, if◌then◌else◌, Result, Ok, Err}
use Rattle.words.specs.declared.refusal.Refusal.{Refusal}
use Rattle.words.specs.declared.refusal.Refusal.TheVariants.{Damaged, ShortMarks}
use Rattle.tree.specs.Header.{capacity_of, counts_agree}
use Rattle.tree.specs.Check.{Walk, fault, going, walk, marks_after}
use Rattle.change.specs.declared.Checked.{Checked}
use Rattle.change.specs.declared.Checked.TheVariants.{Sound, Fault}
use Rattle.change.specs.Gate.{past_gate}

-- "It answers Sound (nodes, records), .. or Fault with the first met"
abbrev pub walked : Walk → Checked
walked (fault k marks) = Fault k
walked (going s) = Sound s.nodes s.records

-- an answer, and the lent marks after it
pub record Examined : Type 0 where
  pub answer : Result Checked Refusal
  pub marks : List ℕ

-- "Each leaves everything lent unchanged"
abbrev pub refuse : List ℕ → Refusal → Examined
refuse marks why = record { answer = Err why; marks = marks }

-- 11, "check: marks shorter than capacity"; 4, "check only the header part"; then the walk
unfoldable pub check_past_gate : List ℕ → List ℕ → Examined
check_past_gate m marks =
    let w = walk m marks in
    if ltb (length marks) (capacity_of m) then refuse marks ShortMarks
    else if not (counts_agree m) then refuse marks Damaged
    else record { answer = Ok (walked w); marks = marks_after w }

-- 2, 3, then 11, 4 and the walk
abbrev pub check : List ℕ → List ℕ → Examined
check m marks = past_gate (refuse marks) m (check_past_gate m marks)
