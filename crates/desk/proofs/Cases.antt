-- The refusals of submit and turn, in 01's order, computed on small cases.
use Prim.Native.Nat.{ℕ}
use mathlib.Core.Path.{◌≡◌, refl}
use mathlib.Core.List.{List, [], ◌∷◌}
use lib.ListN.{replicate}
use Rattle.std.specs.Prelude.{None, Some}
use Rattle.words.specs.Kinds as k
use Rattle.change.specs.declared.Request.{Request}
use Rattle.desk.specs.Desk.{first_full, choose}
use Rattle.desk.specs.Turn.{submit_answer, serve_turn, turn}
use Rattle.desk.specs.Answers.{submit_says, turn_says}

module _ (q : Request) where
  -- 9 "desk list empty or over 16; .. member 0 or past it", also where the desk is full; then 10
  pub submits : (submit_says (submit_answer [] 1) ≡ (k.refused, 9, []))
      × (submit_says (submit_answer (replicate 17 (Some q)) 1) ≡ (k.refused, 9, []))
      × (submit_says (submit_answer (Some q ∷ None ∷ []) 0) ≡ (k.refused, 9, []))
      × (submit_says (submit_answer (Some q ∷ None ∷ []) 3) ≡ (k.refused, 9, []))
      × (submit_says (submit_answer (Some q ∷ None ∷ []) 1) ≡ (k.refused, 10, []))
      × (submit_says (submit_answer (Some q ∷ None ∷ []) 2) ≡ (k.accepted, 0, []))
  unfolding submit_answer
  submits = (refl, refl, refl, refl, refl, refl)

  -- 9 "last served over its length", also where the list is short; then 1; "With none full .. Idle, on any pool"
  pub turns : (m : List ℕ) → (turn_says (turn m [] [] 0).answer ≡ (k.refused, 9, 0 ∷ 0 ∷ 0 ∷ []))
      × (turn_says (turn m [] (Some q ∷ []) 2).answer ≡ (k.refused, 9, 0 ∷ 0 ∷ 2 ∷ []))
      × (turn_says (turn m (replicate 371 0) (Some q ∷ []) 1).answer ≡ (k.refused, 1, 0 ∷ 0 ∷ 1 ∷ []))
      × (turn_says (turn m (replicate 372 0) (None ∷ None ∷ []) 1).answer ≡ (k.idle, 0, 0 ∷ 0 ∷ 1 ∷ []))
      × ((turn m (replicate 372 0) (Some q ∷ []) 1).answer.member ≡ 1)
  unfolding serve_turn first_full
  turns m = (refl, refl, refl, refl, refl)

  -- who is next of three
  pub next : (choose (Some q ∷ Some q ∷ Some q ∷ []) 0 ≡ 1) × (choose (Some q ∷ Some q ∷ Some q ∷ []) 1 ≡ 2)
      × (choose (Some q ∷ Some q ∷ Some q ∷ []) 3 ≡ 1) × (choose (None ∷ None ∷ Some q ∷ []) 3 ≡ 3)
  unfolding first_full
  next = (refl, refl, refl, refl)
