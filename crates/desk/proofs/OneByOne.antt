-- The steps of a turn, taken one by one, are the turn.
use Prim.Native.Nat.{ℕ, ◌-◌, ◌≤◌, ◌<◌}
use mathlib.Core.Path.{◌≡◌, refl}
use mathlib.Core.List.{List, [], ◌∷◌}
use mathlib.Core.Bool.{Bool, true, false}
use native.Mathlib.Omega.{arith}
use native.Mathlib.Decide.{dec_lt}
use lib.ListN.{length}
use Rattle.std.specs.Prelude.{if◌then◌else◌}
use Rattle.words.specs.Event.{at}
use Rattle.desk.specs.declared.steps.Chosen.{Chosen}
use Rattle.desk.specs.Desk.{Desk, fresh, full, held, may_submit, may_turn, round, first_full}
use Rattle.desk.specs.Turn.{serve_turn, turn}
use Rattle.desk.specs.inner.Parts.{noted}
use Rattle.desk.proofs.Bounds.{may_turn_true, submit_may, looked_bounds}
use Rattle.desk.proofs.Round.{length_round, round_ahead, round_about}

-- the members looked at: none where the turn is refused
abbrev pub row : ℕ → ℕ → List ℕ
row n last = if may_turn n last then round n last else []

-- as many as `looked_at` answers
pub length_row : (n last : ℕ) → length (row n last) ≡ (if may_turn n last then n else 0)
length_row n last = go (may_turn n last) refl
  where
    go : (b : Bool) → may_turn n last ≡ b → length (if b then round n last else []) ≡ (if b then n else 0)
    go true t = length_round n last (may_turn_true n last t).2
    go false t = refl

-- the member looked at after k others is one ..
pub is_member : (n last k j : ℕ) → last ≤ n → k < n → j ≡ at (round n last) k → (1 ≤ j) × (j ≤ n)
is_member n last k j l h e = go (dec_lt k (n - last))
  where
    go : Dec (k < n - last) → (1 ≤ j) × (j ≤ n)
    go (yes a) = omega (arith, e, round_ahead n last k a)
    go (no a) = omega (arith, e, round_about n last k l (omega arith) h)

-- .. so `seat` answers the place of its desk
pub has_seat : (n last k : ℕ) → k < (if may_turn n last then n else 0) → may_submit n (at (round n last) k) ≡ true
has_seat n last k h =
    let b = looked_bounds n last k h in
    let m = is_member n last k (at (round n last) k) b.1 b.2 refl in
    submit_may n (at (round n last) k) b.0 m.0 m.1

-- desks noted one after the other
pub looking : List Desk → Chosen → List ℕ → Chosen
looking ds found [] = found
looking ds found (j ∷ js) = looking ds (noted found j (held ds j)) js

abbrev pub nobody : Chosen
nobody = record { member = 0; desk = fresh }

stays : (ds : List Desk) (found : Chosen) (js : List ℕ) → full found.desk ≡ true → looking ds found js ≡ found
unfolding looking
stays ds found [] t = refl
stays ds found (j ∷ js) t = let same : noted found j (held ds j) ≡ found = rw t in rw same (stays ds found js t)

-- a member with its desk
abbrev pub seated : List Desk → ℕ → Chosen
seated ds member = record { member = member; desk = held ds member }

-- the first full one is found
pub looked : (ds : List Desk) (js : List ℕ) → looking ds nobody js ≡ seated ds (first_full ds js)
unfolding first_full looking
looked ds [] = refl
looked ds (j ∷ js) = go (full (held ds j)) refl (looked ds js)
  where
    go : (b : Bool) → full (held ds j) ≡ b → looking ds nobody js ≡ seated ds (first_full ds js)
        → looking ds (noted nobody j (held ds j)) js ≡ seated ds (if full (held ds j) then j else first_full ds js)
    go true t ih = rw t (stays ds (seated ds j) js t)
    go false t ih = rw t ih

-- so a turn serves what is found of the members looked at
pub steps_turn : (m l : List ℕ) (ds : List Desk) (last : ℕ) → let c = looking ds nobody (row (length ds) last) in
    serve_turn m l (length ds) last c.member c.desk ≡ turn m l ds last
unfolding serve_turn
steps_turn m l ds last = go (may_turn (length ds) last) refl
  where
    go : (b : Bool) → may_turn (length ds) last ≡ b
        → let c = looking ds nobody (if b then round (length ds) last else []) in
        serve_turn m l (length ds) last c.member c.desk ≡ turn m l ds last
    go true _ = rw (looked ds (round (length ds) last))
    go false t = rw t
