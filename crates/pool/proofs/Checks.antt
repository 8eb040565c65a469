-- Check, return by return.
use Prim.Native.Nat.{ℕ, ◌≤◌, ◌<◌}
use mathlib.Core.Path.{◌≡◌, refl, ◌∙◌}
use mathlib.Core.List.{List}
use mathlib.Core.Bool.{true, false}
use lib.ListN.{length}
use borrow.Author.Tests.{lt-ltb, le-ltb}
use Rattle.std.specs.Prelude.{Result, Ok}
use Rattle.words.specs.declared.refusal.Refusal.{Refusal}
use Rattle.words.specs.declared.refusal.Refusal.TheVariants.{Damaged, ShortMarks}
use Rattle.tree.specs.Header.{capacity_of, counts_agree}
use Rattle.tree.specs.Check.{walk, marks_after}
use Rattle.change.specs.declared.Checked.{Checked}
use Rattle.change.specs.Answers.{check_says}
use Rattle.change.specs.Check.{walked, Examined, refuse, check_past_gate, check}
use Rattle.pool.proofs.Gates.{gate_test, gate_open}

-- what is answered and left is what is examined
pub examined : {e : Examined} {a : Result Checked Refusal} {l : List ℕ} → e ≡ record { answer = a; marks = l }
    → (check_says a ≡ check_says e.answer) × (l ≡ e.marks)
examined is = rw is (refl, refl)

module _ (m marks : List ℕ) {u : Unit {0}} (t : Ok u ≡ gate_test m) where
  past : check m marks ≡ check_past_gate m marks
  past = gate_open (refuse marks) (check_past_gate m marks) m t

  pub check_short : length marks < capacity_of m → check m marks ≡ refuse marks ShortMarks
  unfolding check_past_gate
  check_short h = past ∙ rw (lt-ltb (length marks) (capacity_of m) h)

  module _ (long : capacity_of m ≤ length marks) where
    pub check_damaged : counts_agree m ≡ false → check m marks ≡ refuse marks Damaged
    unfolding check_past_gate
    check_damaged e = past ∙ rw (le-ltb (length marks) (capacity_of m) long, e)

    pub check_walked : counts_agree m ≡ true → {a : Checked} {l : List ℕ} → a ≡ walked (walk m marks)
        → l ≡ marks_after (walk m marks) → check m marks ≡ record { answer = Ok a; marks = l }
    unfolding check_past_gate
    check_walked e p q = past ∙ rw (le-ltb (length marks) (capacity_of m) long, e, p, q)
