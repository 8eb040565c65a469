-- What the steps of a turn come to is what the turn answers and leaves.
use Prim.Native.Nat.{ℕ, suc, ◌-◌, ◌≤◌}
use mathlib.Core.Path.{◌≡◌, refl, ◌∙◌, ap}
use mathlib.Core.List.{List, map}
use mathlib.Core.Bool.{Bool, true, false, not}
use native.Mathlib.Omega.{arith}
use lib.ListN.{length}
use lib.Dec.{ltb}
use Rattle.std.specs.Prelude.{if◌then◌else◌, Option, Some, None, Result, Ok, Err, option_map}
use Rattle.words.specs.Pool.{list_words}
use Rattle.words.specs.declared.refusal.Refusal.{Refusal}
use Rattle.words.specs.declared.refusal.Refusal.TheVariants.{ShortList, NoDesk}
use Rattle.change.specs.declared.Request.{Request}
use Rattle.desk.specs.declared.answer.Turned.{Turned}
use Rattle.desk.specs.declared.answer.Turned.TheVariants.{Idle}
use Rattle.desk.specs.declared.answer.Turn.{Turn}
use Rattle.desk.specs.Desk.{Desk, held, with_desk, may_turn, choose}
use Rattle.desk.specs.Turn.{Left, as_handed, serve_desk, serve_turn, turn}
use Rattle.desk.specs.Promises.{PlanTurnPromise}
use Rattle.desk.specs.inner.Parts.{chosen}
use Rattle.desk.proofs.Choose.{full_range}
use Rattle.desk.proofs.LentDesks.{with_reads}
use Rattle.desk.proofs.Served.{by}

module _ (m l : List ℕ) (ds : List Desk) (last : ℕ) where
  abbrev k : ℕ
  k = choose ds last

  -- by the answers of its tests, and by the desk that it chooses
  abbrev of : Bool → Bool → Desk → Result (Option (ℕ × Request)) Refusal
  of nine one d = if nine then Err NoDesk else if one then Err ShortList else Ok (option_map (λ q. (k - 1, q)) d)

  pub refused : (why : Refusal) → chosen l ds last ≡ Err why → turn m l ds last ≡ as_handed m l last (Err why)
  unfolding chosen serve_turn
  refused why = go (not (may_turn (length ds) last)) (ltb (length l) list_words) (held ds k)
    where
      apart : (x : Refusal) → ◌≡◌ {A = Result (Option (ℕ × Request)) Refusal} (Err x) (Err why)
          → ◌≡◌ {A = Result Turned Refusal} (Err x) (Err why)
      apart x e = let h : x ≡ why = cc in ap Err h

      go : (a b : Bool) (d : Desk) → of a b d ≡ Err why → by m l (length ds) last k a b d ≡ as_handed m l last (Err why)
      go true b d e = ap (λ (x : Result Turned Refusal). as_handed m l last x) (apart NoDesk e)
      go false true d e = ap (λ (x : Result Turned Refusal). as_handed m l last x) (apart ShortList e)
      go false false None e = cc
      go false false (Some q) e = cc

  pub idle : chosen l ds last ≡ Ok None → turn m l ds last ≡ as_handed m l last (Ok Idle)
  unfolding chosen serve_turn
  idle = go (not (may_turn (length ds) last)) (ltb (length l) list_words) (held ds k)
    where
      go : (a b : Bool) (d : Desk) → of a b d ≡ Ok None → by m l (length ds) last k a b d ≡ as_handed m l last (Ok Idle)
      go true b d e = cc
      go false true d e = cc
      go false false None e = refl
      go false false (Some q) e = cc

  pub serves : (x : ℕ × Request) → chosen l ds last ≡ Ok (Some x) → turn m l ds last ≡ serve_desk m l last (suc x.0) (Some x.1)
  unfolding chosen serve_turn
  serves x = go (not (may_turn (length ds) last)) (ltb (length l) list_words) (held ds k) refl
    where
      go : (a b : Bool) (d : Desk) → held ds k ≡ d → of a b d ≡ Ok (Some x)
          → by m l (length ds) last k a b d ≡ serve_desk m l last (suc x.0) (Some x.1)
      go true b d f e = cc
      go false true d f e = cc
      go false false None f e = cc
      go false false (Some q) f e =
          let one : 1 ≤ k = (full_range ds k (rw f)).0 in
          let pair : (k - 1, q) ≡ x = cc in
          let at : k - 1 ≡ x.0 = ap (λ (y : ℕ × Request). y.0) pair in
          let is : q ≡ x.1 = ap (λ (y : ℕ × Request). y.1) pair in
          let k_is : k ≡ suc x.0 = omega arith in
          ap (λ j. serve_desk m l last j (Some q)) k_is ∙ ap (λ p. serve_desk m l last (suc x.0) (Some p)) is

-- of lent desks
module _ {A : Type 0} {says : A → Desk} {reads : List A → List Desk} (each : (ds : List A) → reads ds ≡ map says ds)
    (made : Desk → A) (back : (d : Desk) → says (made d) ≡ d) (m l : List ℕ) (ds : List A) (last : ℕ) where
  abbrev pub Does : Turn → List ℕ → List A → Type 0
  Does r l' ds' = PlanTurnPromise m l (reads ds) last r l' (reads ds') × (ds' ≡ with_desk ds r.member (made None))

  pub does : {t : Left} (r : Turn) (l' : List ℕ) (ds' : List A) → turn m l (reads ds) last ≡ t → r ≡ t.answer → l' ≡ t.list
      → ds' ≡ with_desk ds r.member (made None) → Does r l' ds'
  does r l' ds' is e f g = ((rw (is, e), rw (is, f), ap reads g ∙ with_reads each ds r.member (made None) ∙ rw (is, e, back)), g)
