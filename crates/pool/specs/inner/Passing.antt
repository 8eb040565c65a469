-- What the tests before every call on a key, and the way down, have shown.
use Rattle.std.specs.Prelude.{ℕ, ◌≡◌, List, true, Result, Ok, Err}
use Rattle.words.specs.declared.refusal.Refusal.{Refusal}
use Rattle.tree.specs.Header.{commit_of, form_agrees}
use Rattle.tree.specs.Path.{way_to}
use Rattle.tree.specs.inner.Descended.{Seated}
use Rattle.tree.specs.declared.descend.Seat.{Seat}
use Rattle.change.specs.declared.Outcome.{Outcome}
use Rattle.change.specs.Gate.{Planned, refused, past_gate, at_leaf}

-- the tests passed, and the way down to a key found its leaf
pub record Admitted (m : List ℕ) (key : ℕ) (s : Seat) : Type 0 where
  pub form_is : form_agrees m ≡ true
  pub finished : commit_of m ≡ 0
  pub seated : Seated m key s

-- the call is refused, whatever it does at a leaf; or it goes on at the leaf
abbrev pub Gated : List ℕ → ℕ → Result Seat Refusal → Type 0
Gated m key (Err why) = (body : ℕ → List ℕ → Planned Outcome) → past_gate refused m (at_leaf body (way_to m key)) ≡ refused why
Gated m key (Ok s) = Admitted m key s
