-- "The team proves that two outcomes allowed by the promise coincide": of each contract itself, with the same words and desks lent and the
-- same request.
use Prim.Native.Nat.{ℕ}
use mathlib.Core.Path.{◌≡◌, refl, sym, ◌∙◌, ap}
use mathlib.Core.List.{List, []}
use lib.ListN.{get_or}
use types.Logic.{Logic}
use contract.BorrowLft.{◌⊑◌, ⊑_static}
use contract.Lifetimes.{Lfts, lft_at}
use contract.Notation.{connectives}
use borrow.Fn.Kind.{ParamKind, ResultKind}
use borrow.Fn.Kinds.{Dens, res_t, Out, ended_of}
use denote.Triple.Clauses.{AtExit}
use denote.Param.Laws.{Laws, IsCopy}
use denote.RattleType.{RattleType}
use denote.Triple.Entry.{Args, Res}
use denote.Triple.Spec.{exits}
use mir.Syntax.{Dict}
use Rattle.std.specs.Prelude.{Result}
use Rattle.std.specs.declared.clone.Clone.{Ghosts as CloneGhosts}
use Rattle.words.specs.declared.refusal.Refusal.{Refusal}
use Rattle.words.proofs.Answers.{one_outcome, both_given, both_same}
use Rattle.words.proofs.Tight.{Tight}
use Rattle.change.specs.declared.Request.{Request}
use Rattle.change.specs.contracts.Request.{the_row as request_row}
use Rattle.std.specs.contracts.option.Option.{the_row as option_row}
use Rattle.desk.specs.declared.lent.Lent.{Ghosts}
use Rattle.desk.specs.contracts.lent.OptionRequestLent.TheImpl.{ghosts as desk_ghosts}
use Rattle.desk.specs.declared.answer.Turn.{Turn}
use Rattle.desk.specs.declared.asking.Asked.{Asked}
use Rattle.desk.specs.Desk.{Desk, fresh, with_desk}
use Rattle.desk.specs.Promises.{SubmitPromise, PlanTurnPromise, TurnPromise, laid}
use base.Logic.{SProp, pcs, sep, emp, emp∗, both⊢, via, mono_l, guard_i}
use seplogic.Bi.Connectives.{affine}
use contract.Monad.{Fun, fact}
use prog.Memory.{Memory}
use prog.Routine.{Routine}
use seplogic.Ra.Ura.{Ura}
use Rattle.desk.proofs.Answers.{submit_told, turn_told}
use Rattle.desk.specs.contracts.submitting.submit as submit
use Rattle.desk.specs.contracts.turning.plan_turn as plan_turn
use Rattle.desk.specs.contracts.turning.turn as turn
use Rattle.desk.proofs.submit.Kinds as submit_kinds
use Rattle.desk.proofs.submit.Reads as submit_reads
use Rattle.desk.proofs.plan_turn.Kinds as plan_turn_kinds
use Rattle.desk.proofs.plan_turn.Reads as plan_turn_reads
use Rattle.desk.proofs.turn.Kinds as turn_kinds
use Rattle.desk.proofs.turn.Reads as turn_reads
use Rattle.desk.proofs.ask.Kinds as ask
use Rattle.desk.proofs.ask.Reads as ask_reads
use Rattle.desk.proofs.plan_chosen.Kinds as plan_chosen
use Rattle.desk.proofs.plan_chosen.Reads as plan_chosen_reads
use Rattle.desk.proofs.seat.Kinds as seat
use Rattle.desk.proofs.seat.Reads as seat_reads
use Rattle.desk.proofs.looked_at.Kinds as looked_at
use Rattle.desk.proofs.looked_at.Reads as looked_at_reads
use Rattle.desk.proofs.looked_member.Kinds as looked_member
use Rattle.desk.proofs.looked_member.Reads as looked_member_reads
use Rattle.desk.proofs.note.Kinds as note
use Rattle.desk.proofs.note.Reads as note_reads

-- of submit, turn and plan_turn, at desks lent in any form: in every model the contract asks nothing but that the borrow of the desks ends
-- no later than what the desks borrow themselves, and ensures the promise of the desks that are read, and which lent desks are left ..
module _ (T : RattleType) (F : Ghosts T.Denot) (f : Dict) (C : CloneGhosts T.Denot) (c : Dict) {M : Type 1} {𝓤 : Ura M} (𝓛 : Logic 𝓤)
    (mem : Memory → SProp 𝓤) (run : Routine → Fun 𝓤) where
  open connectives 𝓤 use {⌜◌⌝, ◌∗◌, ⊤ₛ}

  pub submit_requires : (κs : Lfts 2) (a : Args (submit.signature T) κs)
      → (submit.spec T F f C c 𝓛 mem run κs a).requires tt ≡ (⌜ lft_at 2 1 tt κs ⊑ T.lives ⌝ ∗ ⊤ₛ)
  submit_requires κs a = refl

  pub submit_ensures : (κs : Lfts 2) (a : Args (submit.signature T) κs) (r : Res (submit.signature T) κs)
      → (submit.spec T F f C c 𝓛 mem run κs a).ensures tt r ≡ exits 𝓛 (submit.signature T) (submit.ended T F f C c).kept κs a
      (λ x. ⌜ SubmitPromise (F.reads a.0.now) a.1.0 a.1.1.0 r (F.reads x.0.now) ⌝
      ∗ ⌜ x.0.now ≡ laid F.reads F.made a.0.now a.1.0 a.1.1.0 ⌝)
  submit_ensures κs a r = refl

  pub turn_requires : (κs : Lfts 4) (a : Args (turn.signature T) κs)
      → (turn.spec T F f C c 𝓛 mem run κs a).requires tt ≡ (⌜ lft_at 4 3 tt κs ⊑ T.lives ⌝ ∗ ⊤ₛ)
  turn_requires κs a = refl

  pub turn_ensures : (κs : Lfts 4) (a : Args (turn.signature T) κs) (r : Res (turn.signature T) κs)
      → (turn.spec T F f C c 𝓛 mem run κs a).ensures tt r ≡ exits 𝓛 (turn.signature T) (turn.ended T F f C c).kept κs a
      (λ x. ⌜ TurnPromise a.0.now a.1.0.now (F.reads a.1.1.0.now) a.1.1.1.0 r x.0.now x.1.0.now (F.reads x.1.1.0.now) ⌝
      ∗ ⌜ x.1.1.0.now ≡ with_desk a.1.1.0.now r.member (F.made fresh) ⌝)
  turn_ensures κs a r = refl

  pub plan_turn_requires : (κs : Lfts 4) (a : Args (plan_turn.signature T) κs)
      → (plan_turn.spec T F f C c 𝓛 mem run κs a).requires tt ≡ (⌜ lft_at 4 3 tt κs ⊑ T.lives ⌝ ∗ ⊤ₛ)
  plan_turn_requires κs a = refl

  pub plan_turn_ensures : (κs : Lfts 4) (a : Args (plan_turn.signature T) κs) (r : Res (plan_turn.signature T) κs)
      → (plan_turn.spec T F f C c 𝓛 mem run κs a).ensures tt r
      ≡ exits 𝓛 (plan_turn.signature T) (plan_turn.ended T F f C c).kept κs a
      (λ x. ⌜ PlanTurnPromise a.0.now a.1.0.now (F.reads a.1.1.0.now) a.1.1.1.0 r x.1.0.now (F.reads x.1.1.0.now) ⌝
      ∗ ⌜ x.1.1.0.now ≡ with_desk a.1.1.0.now r.member (F.made fresh) ⌝)
  plan_turn_ensures κs a r = refl

-- .. and the promise leaves no choice
pub submit_tight : (ds : List Desk) (member : ℕ) (q : Request) (r s : Result Unit Refusal) (x y : List Desk)
    → SubmitPromise ds member q r x → SubmitPromise ds member q s y → (r ≡ s) × (x ≡ y)
submit_tight ds member q r s x y = one_outcome submit_told

pub turn_tight : (m l : List ℕ) (ds : List Desk) (last : ℕ) (r s : Turn) (x₀ y₀ x₁ y₁ : List ℕ) (x₂ y₂ : List Desk)
    → TurnPromise m l ds last r x₀ x₁ x₂ → TurnPromise m l ds last s y₀ y₁ y₂ → (r ≡ s) × (x₀ ≡ y₀) × (x₁ ≡ y₁) × (x₂ ≡ y₂)
turn_tight m l ds last r s x₀ y₀ x₁ y₁ x₂ y₂ h k =
    (turn_told r s (h.0 ∙ sym k.0), h.1 ∙ sym k.1, h.2 ∙ sym k.2, h.3 ∙ sym k.3)

pub plan_turn_tight : (m l : List ℕ) (ds : List Desk) (last : ℕ) (r s : Turn) (x₁ y₁ : List ℕ) (x₂ y₂ : List Desk)
    → PlanTurnPromise m l ds last r x₁ x₂ → PlanTurnPromise m l ds last s y₁ y₂ → (r ≡ s) × (x₁ ≡ y₁) × (x₂ ≡ y₂)
plan_turn_tight m l ds last r s x₁ y₁ x₂ y₂ h k = (turn_told r s (h.0 ∙ sym k.0), h.1 ∙ sym k.1, h.2 ∙ sym k.2)

-- nor does each contract itself, of the desks in the form in which they are lent: what a caller learns by it allows one answer and one
-- content of all that was lent to be changed
abbrev One : (n : ℕ) (ps : List (ParamKind n)) (k : ResultKind n) {B : Type 0} (learnt : Out n ps k)
    (left : (κs : Lfts n) → AtExit (ended_of n ps k) κs → B) → Type 0
One n ps k learnt left =
    (κs : Lfts n) (a : Dens κs ps) (r s : (res_t k κs).Denot) (x y : AtExit (ended_of n ps k) κs)
    → learnt κs a r x → learnt κs a s y → (r ≡ s) × (left κs x ≡ left κs y)

module _ (T : RattleType) (L : Laws T) (K : IsCopy T) (F : Ghosts T.Denot) (f : Dict) (C : CloneGhosts T.Denot) (c : Dict) where
  pub lent_submit_tight : One 2 (submit_kinds.ps T L K) (submit_kinds.r T L K) (submit_reads.Learnt T L K F f C c) (λ κs x. x.0.now)
  lent_submit_tight κs a r s x y h k =
      let h = submit_reads.learnt-apart T L K F f C c κs a r x h in
      let k = submit_reads.learnt-apart T L K F f C c κs a s y k in
      (submit_told r s (h.promise.0 ∙ sym k.promise.0), h.lent ∙ sym k.lent)

  -- pool, list and desks
  pub lent_turn_tight : One 4 (turn_kinds.ps T L K) (turn_kinds.r T L K) {B = (List ℕ × List ℕ) × List T.Denot}
      (turn_reads.Learnt T L K F f C c) (λ κs x. ((x.0.now, x.1.0.now), x.1.1.0.now))
  lent_turn_tight κs a r s x y h k =
      let h = turn_reads.learnt-apart T L K F f C c κs a r x h in
      let k = turn_reads.learnt-apart T L K F f C c κs a s y k in
      let same = turn_told r s (h.promise.0 ∙ sym k.promise.0) in (
        same,
        both_same (both_same (h.promise.1 ∙ sym k.promise.1) (h.promise.2 ∙ sym k.promise.2)) (h.lent ∙ rw same (sym k.lent)),
      )

  -- the pool is lent only to read
  pub lent_plan_turn_tight : One 4 (plan_turn_kinds.ps T L K) (plan_turn_kinds.r T L K) {B = List ℕ × List T.Denot}
      (plan_turn_reads.Learnt T L K F f C c) (λ κs x. (x.1.0.now, x.1.1.0.now))
  lent_plan_turn_tight κs a r s x y h k =
      let h = plan_turn_reads.learnt-apart T L K F f C c κs a r x h in
      let k = plan_turn_reads.learnt-apart T L K F f C c κs a s y k in
      let same = turn_told r s (h.promise.0 ∙ sym k.promise.0) in
      (same, both_same (h.promise.1 ∙ sym k.promise.1) (h.lent ∙ rw same (sym k.lent)))

-- at 01's desks, which borrow nothing: each of the three asks nothing ..
abbrev desk_row : RattleType
desk_row = option_row request_row

module _ {M : Type 1} (𝓤 : Ura M) where
  -- a fact that holds asks nothing
  held_is_emp : (A : Type 0) → A → sep 𝓤 (fact 𝓤 A) (emp 𝓤) ≡ emp 𝓤
  held_is_emp A x =
      let e = emp 𝓤 in both⊢ 𝓤 (affine (pcs 𝓤)) (via 𝓤 (sep 𝓤 e e) (emp∗ 𝓤 e) (mono_l 𝓤 e (guard_i 𝓤 A e x)))

module _ (f : Dict) (C : CloneGhosts desk_row.Denot) (c : Dict) where
  module _ {M : Type 1} {𝓤 : Ura M} (𝓛 : Logic 𝓤) (mem : Memory → SProp 𝓤) (run : Routine → Fun 𝓤) where
    pub desk_submit_requires : (κs : Lfts 2) (a : Args (submit.signature desk_row) κs)
        → (submit.spec desk_row desk_ghosts f C c 𝓛 mem run κs a).requires tt ≡ emp 𝓤
    desk_submit_requires κs a = held_is_emp 𝓤 (lft_at 2 1 tt κs ⊑ []) (⊑_static (lft_at 2 1 tt κs))

    pub desk_turn_requires : (κs : Lfts 4) (a : Args (turn.signature desk_row) κs)
        → (turn.spec desk_row desk_ghosts f C c 𝓛 mem run κs a).requires tt ≡ emp 𝓤
    desk_turn_requires κs a = held_is_emp 𝓤 (lft_at 4 3 tt κs ⊑ []) (⊑_static (lft_at 4 3 tt κs))

    pub desk_plan_turn_requires : (κs : Lfts 4) (a : Args (plan_turn.signature desk_row) κs)
        → (plan_turn.spec desk_row desk_ghosts f C c 𝓛 mem run κs a).requires tt ≡ emp 𝓤
    desk_plan_turn_requires κs a = held_is_emp 𝓤 (lft_at 4 3 tt κs ⊑ []) (⊑_static (lft_at 4 3 tt κs))

  -- .. and, as a caller reads it, allows one outcome
  module _ (L : Laws desk_row) (K : IsCopy desk_row) where
    pub desk_submit_tight : Tight 2 (submit_kinds.ps desk_row L K) (submit_kinds.r desk_row L K)
        (submit_reads.Asked desk_row L K desk_ghosts f C c) (submit_reads.Learnt desk_row L K desk_ghosts f C c) (λ κs x. x.0.now)
    desk_submit_tight = record {
      free = λ κs a. ⊑_static (lft_at 2 1 tt κs);
      one = lent_submit_tight desk_row L K desk_ghosts f C c;
    }

    pub desk_turn_tight : Tight 4 (turn_kinds.ps desk_row L K) (turn_kinds.r desk_row L K) {B = (List ℕ × List ℕ) × List Desk}
        (turn_reads.Asked desk_row L K desk_ghosts f C c) (turn_reads.Learnt desk_row L K desk_ghosts f C c)
        (λ κs x. ((x.0.now, x.1.0.now), x.1.1.0.now))
    desk_turn_tight = record {
      free = λ κs a. ⊑_static (lft_at 4 3 tt κs);
      one = lent_turn_tight desk_row L K desk_ghosts f C c;
    }

    pub desk_plan_turn_tight : Tight 4 (plan_turn_kinds.ps desk_row L K) (plan_turn_kinds.r desk_row L K) {B = List ℕ × List Desk}
        (plan_turn_reads.Asked desk_row L K desk_ghosts f C c) (plan_turn_reads.Learnt desk_row L K desk_ghosts f C c)
        (λ κs x. (x.1.0.now, x.1.1.0.now))
    desk_plan_turn_tight = record {
      free = λ κs a. ⊑_static (lft_at 4 3 tt κs);
      one = lent_plan_turn_tight desk_row L K desk_ghosts f C c;
    }

-- the parts of an answer to ask
asked_is : {a b : Result Unit Refusal} {t u : Turn} {d e : Desk} → a ≡ b → t ≡ u → d ≡ e
    → ◌≡◌ {A = Asked} (record { submitted = a; turn = t; desk = d }) (record { submitted = b; turn = u; desk = e })
asked_is p q w = rw (p, q, w)

-- pool and list
pub ask_tight : Tight 2 ask.ps ask.r {B = List ℕ × List ℕ} ask_reads.Asked ask_reads.Learnt (λ κs x. (x.0.now, x.1.0.now))
ask_tight = record {
  free = λ κs a. tt;
  one = λ κs a r s x y h k.
      let submitted = submit_told _ _ (h.0 ∙ sym k.0) in
      let turn = turn_told _ _ (h.1 ∙ sym k.1) in
      let desk = ap (λ (ds : List Desk). get_or ds 0 fresh) (h.4 ∙ sym k.4) in
      (asked_is submitted turn desk, both_same (h.2 ∙ sym k.2) (h.3 ∙ sym k.3));
}

-- and the steps of a turn, for a caller with desks of another form: one is lent a pool to read, and a list
pub plan_chosen_tight : Tight 2 plan_chosen.ps plan_chosen.r plan_chosen_reads.Asked plan_chosen_reads.Learnt (λ κs x. x.1.0.now)
plan_chosen_tight = record { free = λ κs a. tt; one = λ κs a r s x y. both_given }

-- and nothing to the others
pub seat_tight : Tight 0 seat.ps seat.r {B = Unit {0}} seat_reads.Asked seat_reads.Learnt (λ κs x. tt)
seat_tight = record { free = λ κs a. tt; one = λ κs a r s x y h k. (h ∙ sym k, refl) }

pub looked_at_tight : Tight 0 looked_at.ps looked_at.r {B = Unit {0}} looked_at_reads.Asked looked_at_reads.Learnt (λ κs x. tt)
looked_at_tight = record { free = λ κs a. tt; one = λ κs a r s x y h k. (h ∙ sym k, refl) }

pub looked_member_tight : Tight 0 looked_member.ps looked_member.r {B = Unit {0}} looked_member_reads.Asked
    looked_member_reads.Learnt (λ κs x. tt)
looked_member_tight = record { free = λ κs a. tt; one = λ κs a r s x y h k. (h ∙ sym k, refl) }

pub note_tight : Tight 0 note.ps note.r {B = Unit {0}} note_reads.Asked note_reads.Learnt (λ κs x. tt)
note_tight = record { free = λ κs a. tt; one = λ κs a r s x y h k. (h ∙ sym k, refl) }
