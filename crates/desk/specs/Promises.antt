-- "Every public call promises its answer and each word of pool, list .. and desks for all inputs, refusals too." Pool, list and desks are
-- m, l and ds before the call, and m', l' and ds' after it; r is the answer.
use Rattle.std.specs.Prelude.{ℕ, ◌≡◌, List, [], ◌∷◌, Some, Result, if◌then◌else◌}
use Rattle.words.specs.Carry.{CarryAllPromise}
use Rattle.words.specs.declared.refusal.Refusal.{Refusal}
use Rattle.change.specs.declared.Request.{Request}
use Rattle.desk.specs.declared.answer.Turn.{Turn}
use Rattle.desk.specs.declared.asking.Asked.{Asked}
use Rattle.desk.specs.Desk.{Desk, with_desk, accepts}
use Rattle.desk.specs.Turn as t
use Rattle.desk.specs.Answers.{submit_says, turn_says}

abbrev pub SubmitPromise : List Desk → ℕ → Request → Result Unit Refusal → List Desk → Type 0
SubmitPromise ds member q r ds' = (submit_says r ≡ submit_says (t.submit_answer ds member)) × (ds' ≡ t.submit_desks ds member q)

abbrev pub TurnPromise : List ℕ → List ℕ → List Desk → ℕ → Turn → List ℕ → List ℕ → List Desk → Type 0
TurnPromise m l ds last r m' l' ds' =
    (turn_says r ≡ turn_says (t.turn m l ds last).answer) × (m' ≡ (t.turn m l ds last).pool) × (l' ≡ (t.turn m l ds last).list)
    × (ds' ≡ t.turn_desks m l ds last)

-- a turn whose events are left to the caller: the pool is lent only to read
abbrev pub PlanTurnPromise : List ℕ → List ℕ → List Desk → ℕ → Turn → List ℕ → List Desk → Type 0
PlanTurnPromise m l ds last r l' ds' =
    (turn_says r ≡ turn_says (t.turn m l ds last).answer) × (l' ≡ (t.turn m l ds last).list) × (ds' ≡ t.turn_desks m l ds last)

-- a turn is a planned turn, and then all the events that it answers carried out: each outcome of the two is one of turn, and none is left
-- out
abbrev pub TwoSteps : Type 0
TwoSteps =
    (m l : List ℕ) (ds : List Desk) (last : ℕ) (r : Turn) (m' l' : List ℕ) (ds' : List Desk)
    → (PlanTurnPromise m l ds last r l' ds' × CarryAllPromise m l' r.events m' → TurnPromise m l ds last r m' l' ds')
    × (TurnPromise m l ds last r m' l' ds' → PlanTurnPromise m l ds last r l' ds' × CarryAllPromise m l' r.events m')

-- the only desk is handed in by value, and comes back in the answer
abbrev pub AskPromise : List ℕ → List ℕ → Desk → ℕ → Request → Asked → List ℕ → List ℕ → Type 0
AskPromise m l desk last q r m' l' =
    (submit_says r.submitted ≡ submit_says (t.submit_answer (desk ∷ []) 1))
    × (turn_says r.turn ≡ turn_says (t.ask m l desk last q).answer) × (m' ≡ (t.ask m l desk last q).pool)
    × (l' ≡ (t.ask m l desk last q).list) × (r.desk ∷ [] ≡ t.ask_desks m l desk last q)

-- desks may be lent in another form. The promises above are of the desks that these are read as; and of the lent desks themselves, "Submit
-- fills an empty one.": the desks after a submit, by what they read as and by the form that holds a desk
abbrev pub laid : {A : Type 0} → (List A → List Desk) → (Desk → A) → List A → ℕ → Request → List A
laid reads made ds member q = if accepts (reads ds) member then with_desk ds member (made (Some q)) else ds
