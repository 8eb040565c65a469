-- A request that waits is served before any other desk is served twice.
use Prim.Native.Nat.{ℕ, suc, ◌≤◌, ◌<◌}
use mathlib.Core.Path.{◌≡◌, refl, ◌∙◌, ap}
use mathlib.Core.List.{List, [], ◌∷◌, ◌++◌}
use native.Mathlib.Omega.{arith}
use native.Mathlib.Decide.{ℕ_discrete}
use lib.ListN.{length}
use borrow.Author.Tests.{eq-eqb, ne_eqb}
use Rattle.std.specs.Prelude.{Some, Result, Ok}
use Rattle.words.specs.Pool.{list_words}
use Rattle.words.specs.declared.refusal.Refusal.{Refusal}
use Rattle.change.specs.Gate.{outcome_of}
use Rattle.change.specs.declared.Request.{Request}
use Rattle.change.specs.declared.Outcome.{Outcome}
use Rattle.change.specs.Calls.{serve_answer}
use Rattle.desk.specs.declared.answer.Turned.TheVariants.{Served}
use Rattle.desk.specs.Desk.{fresh, full, held, with_desk}
use Rattle.desk.specs.Turn.{Left, serve_desk, submit_desks}
use Rattle.desk.specs.Rows.{our_way, House, Call, submit, turn, Seen, desk_of, step, turns, times}
use Rattle.desk.proofs.Bounds.{not_both, may_turn_true}
use Rattle.desk.proofs.Choose.{dist, dist_range, dist_step, dist_same, dist_self, full_range}
use Rattle.desk.proofs.Desks.{length_with, with_other, length_submit, submit_keeps}
use Rattle.desk.proofs.Took.{Sits, left_by, seen_by, turn_in, Took, nobody_full, one_served, took, sits_turn}

-- every turn of the row is lent a list of 372 words
abbrev pub Lent : List Call → Type 0
Lent [] = Unit {0}
Lent (submit j q ∷ r) = Lent r
Lent (turn l ∷ r) = (list_words ≤ length l) × Lent r

abbrev pub member_of : Seen → ℕ
member_of t = t.left.answer.member

pub times_other : (k : ℕ) (t : Seen) (ts : List Seen) → (member_of t ≡ k → ⊥) → times k (t ∷ ts) ≡ times k ts
times_other k t ts n = rw (ne_eqb (member_of t) k n)

pub times_here : (k : ℕ) (t : Seen) (ts : List Seen) → member_of t ≡ k → times k (t ∷ ts) ≡ suc (times k ts)
times_here k t ts e = rw (eq-eqb (member_of t) k e)

-- the turns while member j waits
pub record Waits (M last j : ℕ) (ts : List Seen) : Type 0 where
  pub short : length ts < dist M last j
  pub once : (k : ℕ) → 1 ≤ k → times k ts ≤ 1
  pub never : (k : ℕ) → 1 ≤ k → k ≤ M → dist M last j ≤ dist M last k → times k ts ≡ 0

pub data Fate (M last j : ℕ) (q : Request) : List Seen → Type 0 where
  waits : {ts : List Seen} → Waits M last j ts → Fate M last j q ts
  comes : {ts : List Seen} (before : List Seen) (its : Seen) (rest : List Seen) (o : Result Outcome Refusal) → ts ≡ before ++ its ∷ rest
      → its.left.answer.turned ≡ Ok (Served o) → member_of its ≡ j → desk_of its ≡ Some q → Waits M last j before → Fate M last j q ts

start : (M last j : ℕ) → last ≤ M → 1 ≤ j → j ≤ M → Waits M last j []
start M last j l a b = record { short = (dist_range M last l j a b).0; once = λ k p. omega arith; never = λ k p q r. refl }

-- a turn that serves another brings j nearer
module _ (M last j : ℕ) (t : Seen) (l : last ≤ M) (a : 1 ≤ member_of t) (b : member_of t ≤ M) (c : 1 ≤ j) (d : j ≤ M)
    (near : dist M last (member_of t) < dist M last j) where
  nearer : (ts : List Seen) → Waits M (member_of t) j ts → Waits M last j (t ∷ ts)
  nearer ts w =
      record {
        short = omega (arith, w.short, dist_step M last l (member_of t) j a b c d near, (dist_range M last l (member_of t) a b).0);
        once = λ x p. go x p (ℕ_discrete (member_of t) x);
        never = λ x p r s. rw (times_other x t ts (λ e. far x s e)) (w.never x p r (on x p r s));
      }
    where
      far : (x : ℕ) → dist M last j ≤ dist M last x → member_of t ≡ x → ⊥
      far x s e = let s' : dist M last j ≤ dist M last (member_of t) = rw (← e) at s in omega arith

      on : (x : ℕ) → 1 ≤ x → x ≤ M → dist M last j ≤ dist M last x → dist M (member_of t) j ≤ dist M (member_of t) x
      on x p r s =
          omega (arith, dist_step M last l (member_of t) j a b c d near, dist_step M last l (member_of t) x a b p r (omega arith))

      zero_here : times (member_of t) ts ≡ 0
      zero_here = w.never (member_of t) a b (rw (dist_self M (member_of t)) (dist_range M (member_of t) b j c d).1)

      go : (x : ℕ) → 1 ≤ x → Dec (member_of t ≡ x) → times x (t ∷ ts) ≤ 1
      go x p (yes e) = rw (times_here x t ts e, ← e, zero_here) (omega arith)
      go x p (no e) = rw (times_other x t ts e) (w.once x p)

  nearer_fate : (q : Request) (ts : List Seen) → Fate M (member_of t) j q ts → Fate M last j q (t ∷ ts)
  nearer_fate q ts (waits w) = waits (nearer ts w)
  nearer_fate q ts (comes before its rest o e a m h w) =
      comes (t ∷ before) its rest o (ap (λ (l : List Seen). t ∷ l) e) a m h (nearer before w)

-- whatever the row
pub fate : (r : List Call) (h : House) (j : ℕ) (q : Request) → Lent r → Sits h → held h.desks j ≡ Some q
    → Fate (length h.desks) h.last j q (turns our_way h r)
unfolding turns
fate [] h j q lent s e =
    let g = full_range h.desks j (rw e) in
    waits (start (length h.desks) h.last j (may_turn_true (length h.desks) h.last s).2 g.0 g.1)
fate (submit i p ∷ r) h j q lent s e =
    let n : length (submit_desks h.desks i p) ≡ length h.desks = length_submit h.desks i p in
    rw n at (fate r (step our_way h (submit i p)) j q lent (rw n s) (submit_keeps h.desks i p j q e))
fate (turn l ∷ r) h j q (room, lent) s e =
    go (turn_in h l) (took h l s room) (λ t x f. fate r (left_by h t) j q lent (sits_turn h l t x s) f)
  where
    M : ℕ
    M = length h.desks

    g : (1 ≤ j) × (j ≤ M)
    g = full_range h.desks j (rw e)

    last_is : h.last ≤ M
    last_is = (may_turn_true M h.last s).2

    Rest : Left → Type 0
    Rest t = Fate (length (left_by h t).desks) (left_by h t).last j q (turns our_way (left_by h t) r)

    serve : (k : ℕ) (p : Request) → 1 ≤ k → k ≤ M → held h.desks k ≡ Some p → dist M h.last k ≤ dist M h.last j → Dec (k ≡ j)
        → let t = serve_desk h.pool l h.last k (Some p) in (held (left_by h t).desks j ≡ Some q → Rest t)
        → Fate M h.last j q (seen_by h t ∷ turns our_way (left_by h t) r)
    serve k p a b f n (yes x) ih =
        let t = serve_desk h.pool l h.last k (Some p) in
        let f' : held h.desks k ≡ Some q = rw (← x) at e in
        comes [] (seen_by h t) (turns our_way (left_by h t) r) (outcome_of (serve_answer h.pool l p)) refl refl x f'
        (start M h.last j last_is g.0 g.1)
    serve k p a b f n (no x) ih =
        let t = serve_desk h.pool l h.last k (Some p) in
        let m : length (with_desk h.desks k fresh) ≡ M = length_with h.desks k fresh in
        let y : Fate M k j q (turns our_way (left_by h t) r) = rw m at (ih (with_other h.desks k j fresh x ∙ e)) in
        let apart = strict (λ u. x (dist_same M h.last last_is k j a b g.0 g.1 u)) in
        nearer_fate M h.last j (seen_by h t) last_is a b g.0 g.1 apart q (turns our_way (left_by h t) r) y
      where
        strict : (dist M h.last k ≡ dist M h.last j → ⊥) → dist M h.last k < dist M h.last j
        strict u = omega arith

    go : (t : Left) → Took h l t → ((t : Left) → Took h l t → held (left_by h t).desks j ≡ Some q → Rest t)
        → Fate M h.last j q (seen_by h t ∷ turns our_way (left_by h t) r)
    go t (nobody_full f) ih = absurd (not_both (full (held h.desks j)) (rw e) (f j))
    go t (one_served k p a b f n) ih = serve k p a b f (n j (rw e)) (ℕ_discrete k j) (ih t (one_served k p a b f n))
