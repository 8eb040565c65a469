-- What is accepted is served once.
use Prim.Native.Nat.{ℕ, suc, ◌+◌, ◌≤◌}
use mathlib.Core.Path.{◌≡◌, refl, ap, subst}
use mathlib.Core.List.{List, [], ◌∷◌}
use mathlib.Core.Bool.{Bool, true, false}
use native.Mathlib.Omega.{arith}
use native.Mathlib.Decide.{ℕ_discrete}
use lib.Dec.{eqb}
use borrow.Author.Tests.{eq-eqb, ne_eqb}
use Rattle.std.specs.Prelude.{None, Some, if◌then◌else◌}
use Rattle.desk.specs.Desk.{Desk, fresh, full, held, with_desk, accepts}
use Rattle.desk.specs.Turn.{Left, submit_desks}
use Rattle.desk.specs.Rows.{our_way, House, Call, submit, turn, step, after, turns, accepted, times, waiting}
use Rattle.desk.proofs.Bounds.{not_both}
use Rattle.desk.proofs.Desks.{with_other, with_same, accepts_true, length_submit, submit_there, submit_none, submit_other}
use Rattle.desk.proofs.Took.{Sits, left_by, seen_by, turn_in, Took, nobody_full, one_served, took, sits_turn}
use Rattle.desk.proofs.Fair.{Lent, times_here, times_other}

not_waiting : (d : Desk) → full d ≡ false → waiting d ≡ 0
not_waiting None e = refl
not_waiting (Some q) e = absurd (not_both true refl e)

pub each_once : (r : List Call) (h : House) (j : ℕ) → Lent r → Sits h → 1 ≤ j
    → times j (turns our_way h r) + waiting (held (after our_way h r).desks j) ≡ accepted our_way j h r + waiting (held h.desks j)
unfolding turns after accepted
each_once [] h j lent s a = refl
each_once (submit i p ∷ r) h j lent s a =
    go (ℕ_discrete i j) (accepts h.desks i) refl
    (each_once r (step our_way h (submit i p)) j lent (rw (length_submit h.desks i p) s) a)
  where
    h' : House
    h' = step our_way h (submit i p)

    go : Dec (i ≡ j) → (b : Bool) → accepts h.desks i ≡ b
        → times j (turns our_way h' r) + waiting (held (after our_way h' r).desks j)
        ≡ accepted our_way j h' r + waiting (held h'.desks j)
        → times j (turns our_way h' r) + waiting (held (after our_way h' r).desks j)
        ≡ (if eqb i j then (if accepts h.desks i then suc (accepted our_way j h' r) else accepted our_way j h' r)
        else accepted our_way j h' r) + waiting (held h.desks j)
    go (yes e) true t ih =
        let ds = h.desks in
        let now : waiting (held (submit_desks ds i p) j) ≡ 1 =
        subst (λ (x : ℕ). waiting (held (submit_desks ds i p) x) ≡ 1) e (ap waiting (submit_there ds i p t)) in
        let was : waiting (held ds j) ≡ 0 =
        subst (λ (x : ℕ). waiting (held ds x) ≡ 0) e (not_waiting (held ds i) (accepts_true ds i t).2) in
        rw (eq-eqb i j e, t) (omega arith)
    go (yes e) false t ih =
        let same : waiting (held h'.desks j) ≡ waiting (held h.desks j) =
        ap (λ (ds : List Desk). waiting (held ds j)) (submit_none h.desks i p t) in
        rw (eq-eqb i j e, t) (omega arith)
    go (no e) b t ih =
        let same : waiting (held h'.desks j) ≡ waiting (held h.desks j) = ap waiting (submit_other h.desks i p j e) in
        rw (ne_eqb i j e) (omega arith)
each_once (turn l ∷ r) h j (room, lent) s a =
    go (turn_in h l) (took h l s room) (λ t x. each_once r (left_by h t) j lent (sits_turn h l t x s) a)
  where
    Same : Left → ℕ → ℕ → Type 0
    Same t served waited =
        served + waiting (held (after our_way (left_by h t) r).desks j) ≡ accepted our_way j (left_by h t) r + waited

    go : (t : Left) → Took h l t
        → ((t : Left) → Took h l t → Same t (times j (turns our_way (left_by h t) r)) (waiting (held (left_by h t).desks j)))
        → Same t (times j (seen_by h t ∷ turns our_way (left_by h t) r)) (waiting (held h.desks j))
    go t (nobody_full f) ih = rw (times_other j (seen_by h t) (turns our_way (left_by h t) r) (λ e. omega arith)) (ih t (nobody_full f))
    go t (one_served k q b c e n) ih = served (ℕ_discrete k j) (ih t (one_served k q b c e n))
      where
        served : Dec (k ≡ j) → Same t (times j (turns our_way (left_by h t) r)) (waiting (held (left_by h t).desks j))
            → Same t (times j (seen_by h t ∷ turns our_way (left_by h t) r)) (waiting (held h.desks j))
        served (yes x) same =
            let now : waiting (held (with_desk h.desks k fresh) j) ≡ 0 =
            subst (λ (y : ℕ). waiting (held (with_desk h.desks k fresh) y) ≡ 0) x (ap waiting (with_same h.desks k fresh b c)) in
            let was : waiting (held h.desks j) ≡ 1 = subst (λ (y : ℕ). waiting (held h.desks y) ≡ 1) x (ap waiting e) in
            rw (times_here j (seen_by h t) (turns our_way (left_by h t) r) x) (omega arith)
        served (no x) same =
            let is : waiting (held (with_desk h.desks k fresh) j) ≡ waiting (held h.desks j) =
            ap waiting (with_other h.desks k j fresh x) in
            rw (times_other j (seen_by h t) (turns our_way (left_by h t) r) x) (omega arith)
