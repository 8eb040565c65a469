-- Desks after a submit, and after one of them is made another.
use Prim.Native.Nat.{ℕ, zero, suc, ◌≤◌}
use mathlib.Core.Path.{◌≡◌, refl, sym, ◌∙◌, ap}
use mathlib.Core.List.{List, [], ◌∷◌}
use mathlib.Core.Bool.{Bool, true, false, not, ◌&&◌}
use native.Mathlib.Omega.{arith}
use native.Mathlib.Decide.{ℕ_discrete}
use lib.ListN.{length, set, get_or, length-set}
use lib.Seq.{get_or-set_same, get_or-set_other}
use borrow.Author.Tests.{not-true}
use Rattle.std.specs.Prelude.{Err, Ok, Result, Some, if◌then◌else◌}
use Rattle.words.proofs.Tests.{both}
use Rattle.words.specs.declared.refusal.Refusal.{Refusal}
use Rattle.words.specs.declared.refusal.Refusal.TheVariants.{NoDesk, FullDesk}
use Rattle.change.specs.declared.Request.{Request}
use Rattle.desk.specs.Desk.{Desk, fresh, full, held, with_desk, may_submit, accepts}
use Rattle.desk.specs.Turn.{submit_answer, submit_desks}
use Rattle.desk.proofs.Bounds.{not_both, may_submit_true}

pub length_with : (ds : List Desk) (j : ℕ) (d : Desk) → length (with_desk ds j d) ≡ length ds
length_with ds zero d = refl
length_with ds (suc i) d = length-set ds i d

pub with_other : (ds : List Desk) (i j : ℕ) (d : Desk) → (i ≡ j → ⊥) → held (with_desk ds i d) j ≡ held ds j
with_other ds zero j d n = refl
with_other ds (suc i) zero d n = refl
with_other ds (suc i) (suc j) d n = get_or-set_other ds i j d fresh (λ e. n (ap suc (sym e)))

pub with_same : (ds : List Desk) (j : ℕ) (d : Desk) → 1 ≤ j → j ≤ length ds → held (with_desk ds j d) j ≡ d
with_same ds zero d a b = absurd (omega arith)
with_same ds (suc i) d a b = get_or-set_same ds i d fresh (omega arith)

pub set_self : (ds : List Desk) (i : ℕ) → set ds i (get_or ds i fresh) ≡ ds
set_self [] i = refl
set_self (d ∷ ds) zero = refl
set_self (d ∷ ds) (suc i) = ap (λ (l : List Desk). d ∷ l) (set_self ds i)

pub accepts_true : (ds : List Desk) (j : ℕ) → accepts ds j ≡ true → (1 ≤ j) × (j ≤ length ds) × (full (held ds j) ≡ false)
accepts_true ds j t =
    let a = both {a = may_submit (length ds) j} {b = not (full (held ds j))} t in
    let b = may_submit_true (length ds) j a.0 in
    (b.2, b.3, not-true (full (held ds j)) a.1)

pub accepted_is : (ds : List Desk) (j : ℕ) → submit_answer ds j ≡ Ok tt → accepts ds j ≡ true
unfolding submit_answer
accepted_is ds j = go (may_submit (length ds) j) (full (held ds j))
  where
    go : (a b : Bool) → ◌≡◌ {A = Result Unit Refusal} (if not a then Err NoDesk else if b then Err FullDesk else Ok tt) (Ok tt)
        → (a && not b) ≡ true
    go true true e = cc
    go true false e = refl
    go false b e = cc

module _ (ds : List Desk) (i : ℕ) (p : Request) where
  pub length_submit : length (submit_desks ds i p) ≡ length ds
  unfolding submit_desks
  length_submit = go (accepts ds i)
    where
      go : (b : Bool) → length (if b then with_desk ds i (Some p) else ds) ≡ length ds
      go true = length_with ds i (Some p)
      go false = refl

  pub submit_there : accepts ds i ≡ true → held (submit_desks ds i p) i ≡ Some p
  unfolding submit_desks
  submit_there t = let a = accepts_true ds i t in rw t (with_same ds i (Some p) a.0 a.1)

  pub submit_none : accepts ds i ≡ false → submit_desks ds i p ≡ ds
  unfolding submit_desks
  submit_none t = rw t

  pub submit_other : (j : ℕ) → (i ≡ j → ⊥) → held (submit_desks ds i p) j ≡ held ds j
  unfolding submit_desks
  submit_other j n = go (accepts ds i)
    where
      go : (b : Bool) → held (if b then with_desk ds i (Some p) else ds) j ≡ held ds j
      go true = with_other ds i j (Some p) n
      go false = refl

  -- a full desk keeps its request, whatever is submitted
  pub submit_keeps : (j : ℕ) (q : Request) → held ds j ≡ Some q → held (submit_desks ds i p) j ≡ Some q
  submit_keeps j q h = go (accepts ds i) refl (ℕ_discrete i j)
    where
      go : (b : Bool) → accepts ds i ≡ b → Dec (i ≡ j) → held (submit_desks ds i p) j ≡ Some q
      go true t (yes e) =
          let x : full (held ds j) ≡ false = rw e at (accepts_true ds i t).2 in
          absurd (not_both (full (held ds j)) (rw h) x)
      go true t (no e) = submit_other j e ∙ h
      go false t d = rw (submit_none t) h
