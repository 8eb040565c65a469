-- Slips in submit, ask and plan_turn, each at desks where the definition answers or leaves something else.
use Prim.Native.Nat.{ℕ}
use mathlib.Core.Path.{◌≡◌, refl}
use mathlib.Core.List.{List, [], ◌∷◌}
use lib.ListN.{replicate}
use Rattle.std.specs.Prelude.{Err, None, Some}
use Rattle.words.specs.Pool.{list_words}
use Rattle.words.specs.declared.refusal.Refusal.TheVariants.{NoDesk}
use Rattle.tree.specs.Header.{form_agrees}
use Rattle.change.specs.declared.Request.TheVariants.{Fetch}
use Rattle.desk.specs.declared.answer.Turn.{Turn}
use Rattle.desk.specs.Desk.{first_full}
use Rattle.desk.specs.Turn.{submit_answer, submit_desks, serve_turn, ask_desks}
use Rattle.desk.specs.Promises.{PlanTurnPromise}

-- a member that has no desk is answered 10, as the first desk is full
pub nine_before_ten : submit_answer (Some (Fetch 7) ∷ []) 0 ≡ Err NoDesk
unfolding submit_answer
nine_before_ten = refl

-- ask hands the served desk back full: here the request is refused, as there is no pool, and yet served
pub desk_not_fresh : ask_desks [] (replicate list_words 0) None 0 (Fetch 7) ≡ None ∷ []
unfolding submit_desks serve_turn form_agrees first_full
desk_not_fresh = refl

-- a planned turn leaves the desk that it serves full, for the caller to empty once the events are carried out
pub left_full : (r : Turn) (l : List ℕ)
    → PlanTurnPromise [] (replicate list_words 0) (Some (Fetch 7) ∷ []) 0 r l (Some (Fetch 7) ∷ []) → ⊥
unfolding serve_turn form_agrees first_full
left_full r l h = let full : Some (Fetch 7) ∷ [] ≡ None ∷ [] = h.2 in cc
