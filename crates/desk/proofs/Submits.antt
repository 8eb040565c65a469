-- What the steps of a submit come to is what submit answers and leaves.
use Prim.Native.Nat.{ℕ, suc, ◌-◌, ◌<◌}
use mathlib.Core.Path.{◌≡◌, refl, ◌∙◌, ap}
use mathlib.Core.List.{List, map}
use mathlib.Core.Bool.{Bool, true, false}
use native.Mathlib.Omega.{arith}
use lib.ListN.{length, get_or}
use Rattle.std.specs.Prelude.{if◌then◌else◌, Some, Result, Ok, Err}
use Rattle.words.specs.declared.refusal.Refusal.{Refusal}
use Rattle.words.specs.declared.refusal.Refusal.TheVariants.{NoDesk, FullDesk}
use Rattle.change.specs.declared.Request.{Request}
use Rattle.desk.specs.Desk.{Desk, full, held, with_desk, may_submit}
use Rattle.desk.specs.Turn.{submit_answer}
use Rattle.desk.specs.Answers.{submit_says}
use Rattle.desk.specs.Promises.{SubmitPromise, laid}
use Rattle.desk.proofs.Bounds.{may_submit_true}
use Rattle.desk.proofs.LentDesks.{length_reads, held_reads, laid_reads}

-- the place of a member's desk
abbrev pub place : ℕ → ℕ → Result ℕ Refusal
place n j = if may_submit n j then Ok (j - 1) else Err NoDesk

no_place : (n j : ℕ) (why : Refusal) → place n j ≡ Err why → (may_submit n j ≡ false) × (why ≡ NoDesk)
no_place n j why = go (may_submit n j)
  where
    go : (b : Bool) → (if b then Ok (j - 1) else Err NoDesk) ≡ Err why → (b ≡ false) × (why ≡ NoDesk)
    go true e = cc
    go false e = (refl, cc)

a_place : (n j i : ℕ) → place n j ≡ Ok i → (may_submit n j ≡ true) × (suc i ≡ j) × (i < n)
a_place n j i = go (may_submit n j) refl
  where
    go : (b : Bool) → may_submit n j ≡ b → (if b then Ok (j - 1) else Err NoDesk) ≡ Ok i → (b ≡ true) × (suc i ≡ j) × (i < n)
    go true t e =
        let m = may_submit_true n j t in
        let p : j - 1 ≡ i = cc in
        (refl, omega arith, omega arith)
    go false t e = cc

-- of a lent list
module _ {A : Type 0} {says : A → Desk} {reads : List A → List Desk} (each : (ds : List A) → reads ds ≡ map says ds)
    (made : Desk → A) (back : (d : Desk) → says (made d) ≡ d) (ds : List A) (j : ℕ) (q : Request) where
  abbrev after : List A
  after = laid reads made ds j q

  abbrev Does : Result Unit Refusal → List A → Type 0
  Does r ds' = SubmitPromise (reads ds) j q r (reads ds') × (ds' ≡ after)

  does : (r : Result Unit Refusal) (ds' : List A) → r ≡ submit_answer (reads ds) j → ds' ≡ after → Does r ds'
  does r ds' e f = ((ap submit_says e, ap reads f ∙ laid_reads each made back ds j q), f)

  pub nobody : (why : Refusal) → place (length ds) j ≡ Err why → Does (Err why) ds
  unfolding submit_answer
  nobody why e =
      let t = no_place (length ds) j why e in
      does (Err why) ds (rw (length_reads each, t.0, t.1)) (rw (length_reads each, t.0))

  module _ (i : ℕ) (x : A) (is : place (length ds) j ≡ Ok i) (at : x ≡ get_or ds i x) where
    held_is : held (reads ds) j ≡ says x
    held_is = let p = a_place (length ds) j i is in rw (← p.1) (held_reads each ds i x p.2 at)

    pub keeps : full (says x) ≡ true → Does (Err FullDesk) ds
    unfolding submit_answer
    keeps f =
        let t = (a_place (length ds) j i is).0 in
        does (Err FullDesk) ds (rw (length_reads each, t, held_is, f)) (rw (length_reads each, t, held_is, f))

    pub lays : full (says x) ≡ false → Does (Ok tt) (with_desk ds (suc i) (made (Some q)))
    unfolding submit_answer
    lays f =
        let p = a_place (length ds) j i is in
        does (Ok tt) (with_desk ds (suc i) (made (Some q)))
        (rw (length_reads each, p.0, held_is, f)) (rw (length_reads each, p.0, held_is, f, ← p.1))
