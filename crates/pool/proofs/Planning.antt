-- An answer with its events, as a call returns it and leaves the lent list.
use Prim.Native.Nat.{ℕ}
use mathlib.Core.Path.{◌≡◌, refl, ◌∙◌, ap}
use mathlib.Core.List.{List, []}
use native.Mathlib.Nat.{zero-add}
use lib.ListN.{length}
use Rattle.std.specs.Prelude.{Result, Ok}
use Rattle.words.specs.declared.event.Event.{Event}
use Rattle.words.specs.declared.write.EventList.{EventList}
use Rattle.words.specs.Written.{written, Wrote}
use Rattle.words.proofs.Written.{wrote_all}
use Rattle.words.specs.declared.refusal.Refusal.{Refusal}
use Rattle.change.specs.declared.Outcome.{Outcome}
use Rattle.change.specs.Gate.{Planned, list_after, with_count, answered}

-- what is answered says what the promise says of it
pub said : {A B : Type 0} (says : A → B) {r a : A} {l x : List ℕ} → (r ≡ a) × (l ≡ x) → (says r ≡ says a) × (l ≡ x)
said says h = (ap says h.0, h.1)

-- no events: the list is as it was
pub quietly : {A : Type 0} (p : Planned A) (r : Result A Refusal) (l : List ℕ) → p ≡ record { answer = r; events = [] }
    → (r ≡ p.answer) × (l ≡ list_after p l)
unfolding written
quietly p r l e = rw e (refl, refl)

-- events written from the first on: their number is in the answer, and the list has them
pub planned : {A : Type 0} (p : Planned A) (f : ℕ → A) (es : List Event) {a b : EventList} {l l' : List ℕ}
    → p ≡ record { answer = Ok (f (length es)); events = es } → Wrote es a b → a.words.now ≡ l → a.events ≡ 0 → l' ≡ b.words.now
    → (Ok (f b.events) ≡ p.answer) × (l' ≡ list_after p l)
planned p f es e w l n now = rw e (ap (λ (n : ℕ). Ok (f n)) (w.next ∙ rw (n, zero-add (length es))), wrote_all w l n now)

-- the same of an outcome with its event count
pub quiet_answer : (p : Planned Outcome) (r : Result Outcome Refusal) (l : List ℕ) → p ≡ record { answer = r; events = [] }
    → (with_count r 0 ≡ answered p) × (l ≡ list_after p l)
unfolding written
quiet_answer p r l e = rw e (refl, refl)

pub planned_answer : (p : Planned Outcome) (o : Outcome) (es : List Event) {a b : EventList} {l l' : List ℕ}
    → p ≡ record { answer = Ok o; events = es } → Wrote es a b → a.words.now ≡ l → a.events ≡ 0 → l' ≡ b.words.now
    → (Ok (record { outcome = o; events = b.events }) ≡ answered p) × (l' ≡ list_after p l)
planned_answer p o es e w l n now =
    rw e (ap (λ (c : ℕ). Ok (record { outcome = o; events = c })) (w.next ∙ rw (n, zero-add (length es))), wrote_all w l n now)
