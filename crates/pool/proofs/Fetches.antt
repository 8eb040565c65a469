-- Fetch, return by return.
use Prim.Native.Nat.{ℕ}
use mathlib.Core.Path.{◌≡◌, refl, sym, ◌∙◌, ap}
use mathlib.Core.List.{List, []}
use mathlib.Core.Bool.{Bool, true, false, not}
use lib.Dec.{eqb}
use lib.ListN.{get_or}
use Rattle.std.specs.Prelude.{if◌then◌else◌, Result, Ok, Err}
use Rattle.words.specs.Event.{at}
use Rattle.words.specs.declared.refusal.Refusal.{Refusal}
use Rattle.words.specs.declared.refusal.Refusal.TheVariants.{NoPool, Unfinished}
use Rattle.node.specs.Slot.{names}
use Rattle.node.specs.View.{value_at}
use Rattle.tree.specs.Header.{commit_of, form_agrees}
use Rattle.tree.specs.Path.{Way, failed, leaf, way_to}
use Rattle.tree.specs.declared.descend.Seat.{Seat}
use Rattle.tree.proofs.Find.{find_absent}
use Rattle.tree.proofs.Leaves.{placed, found_value}
use Rattle.change.specs.declared.Outcome.{Outcome}
use Rattle.change.specs.declared.Outcome.TheVariants.{Absent, Found}
use Rattle.change.specs.Answers.{outcome_says}
use Rattle.change.specs.Gate.{Planned, refused, at_leaf}
use Rattle.change.specs.Fetch.{fetch_at, fetch}
use Rattle.change.proofs.Answers.{outcome_told}
use Rattle.pool.specs.Promises.{FetchPromise}
use Rattle.pool.specs.inner.Passing.{Admitted}
use Rattle.pool.proofs.Gates.{found_leaf, gate_at}

module _ (m : List ℕ) (key : ℕ) where
  says : (r : Result Outcome Refusal) → fetch m key ≡ record { answer = r; events = [] } → FetchPromise m key r
  says r e = sym (ap (λ (p : Planned Outcome). outcome_says p.answer) e)

  module _ {s : Seat} (p : Admitted m key s) where
    pub fetch_absent : {r : ℕ} → s.place ≡ Err r → FetchPromise m key (Ok Absent)
    fetch_absent e = says (Ok Absent) (gate_at p (fetch_at m key) ∙ rw (find_absent key _ (placed (found_leaf p) e).1) refl)

    pub fetch_found : {r : ℕ} → s.place ≡ Ok r → {e v : ℕ} → e ≡ get_or (names s.slot) r 0
        → v ≡ at m (value_at s.leaf e) → FetchPromise m key (Ok (Found v))
    fetch_found h {e} {v} x y = says (Ok (Found v)) (gate_at p (fetch_at m key) ∙ rw (found_value (found_leaf p) h x y) refl)

-- a fetch plans nothing, whatever it answers
fetch_quiet : (m : List ℕ) (key : ℕ) → fetch m key ≡ record { answer = (fetch m key).answer; events = [] }
fetch_quiet m key = go (form_agrees m) (eqb (commit_of m) 0) (way_to m key)
  where
    go : (a b : Bool) (w : Way)
        → let p = if not a then refused NoPool else if not b then refused Unfinished else at_leaf (fetch_at m key) w in
        p ≡ record { answer = p.answer; events = [] }
    go false b w = refl
    go true false w = refl
    go true true (failed node) = refl
    go true true (leaf k above) = refl

pub fetch_plan : (m : List ℕ) (key : ℕ) (r : Result Outcome Refusal) → FetchPromise m key r
    → fetch m key ≡ record { answer = r; events = [] }
fetch_plan m key r e =
    fetch_quiet m key ∙ ap (λ (r : Result Outcome Refusal). record { answer = r; events = [] }) (sym (outcome_told _ _ e))
