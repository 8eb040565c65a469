-- `desk::plan_turn` meets its contract.
use mathlib.Core.Path.{◌≡◌, refl, sym, ◌∙◌, ap}
use native.Mathlib.Numerals.{add-one}
use Prim.Native.Nat.{ℕ, suc, ◌+◌}
use Rattle.std.specs.Prelude.{Result, Ok}
use Rattle.words.specs.declared.refusal.Refusal.{Refusal}
use Rattle.change.specs.declared.Answer.{Answer}
use Rattle.change.proofs.Answers.{answer_told}
use Rattle.desk.specs.declared.answer.Turn.{Turn}
use Rattle.desk.specs.inner.Parts as parts
use Rattle.desk.proofs.Turns.{refused, idle, serves, does}
use Rattle.desk.proofs.turning.plan_turn.Goals as goal

answers : {a b : Result Answer Refusal} (r : Turn) (i : ℕ) → r ≡ parts.served (i + 1) a → a ≡ b → r ≡ parts.served (suc i) b
answers r i e f = rw (e, f, add-one)

pub returns-in-Err : goal.returns-in-Err
returns-in-Err g c =
    let w = g.met.L.Lent in
    let is = refused c.args.pool.now _ _ _ c.in-Err.why (sym c.choose.ensures.chosen ∙ c.in-Err.is) in
    let h = does w.reads_each g.L.Lent.made w.says_made _ _ c.args.desks.now _ _ _ _ is c.unserved.ensures refl
    (rw c.unserved.ensures) in
    record { promise = h.0; lent = h.1 }

pub returns-in-Ok-None : goal.returns-in-Ok-None
returns-in-Ok-None g c =
    let w = g.met.L.Lent in
    let is = idle c.args.pool.now _ _ _ (sym c.choose.ensures.chosen ∙ c.in-Ok-None.is ∙ ap Ok c.in-Ok-None.field-0-is) in
    let h = does w.reads_each g.L.Lent.made w.says_made _ _ c.args.desks.now _ _ _ _ is c.unserved-in-Ok-None.ensures
    refl (rw c.unserved-in-Ok-None.ensures) in
    record { promise = h.0; lent = h.1 }

pub returns : goal.returns
returns g c =
    let w = g.met.L.Lent in
    let chosen = sym c.choose.ensures.chosen ∙ c.in-Ok-Some.is ∙ ap Ok c.in-Ok-Some.field-0-is in
    let is = serves c.args.pool.now _ _ _ c.in-Ok-Some.chosen chosen in
    let h = does w.reads_each g.L.Lent.made w.says_made _ _ c.args.desks.now _ _ _ _ is
    (answers _ c.in-Ok-Some.chosen.0 c.served.ensures (answer_told _ _ c.serve.ensures.0)) c.serve.ensures.1
    (rw (c.from_desk.ensures, c.served.ensures, add-one c.in-Ok-Some.chosen.0)) in
    record { promise = h.0; lent = h.1 }
