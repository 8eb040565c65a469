-- What an answer says tells its cases apart: the answer can be read back from it.
use Prim.Native.Nat.{ℕ, ◌-◌}
use mathlib.Core.Path.{◌≡◌, refl, sym, ◌∙◌, ap}
use mathlib.Core.List.{[], ◌∷◌}
use lib.ListN.{get_or}
use lib.Dec.{eqb}
use Rattle.std.specs.Prelude.{if◌then◌else◌, Result, Ok, Err}
use Rattle.words.specs.declared.refusal.Refusal.{Refusal}
use Rattle.words.specs.declared.refusal.Refusal.TheVariants.{ShortList, NoPool, Unfinished, Damaged, NoRoom, BadLog}
use Rattle.words.specs.declared.refusal.Refusal.TheVariants.{BadCapacity, ShortSlice, NoDesk, FullDesk, ShortMarks, NoEvent}
use Rattle.words.specs.Refusals.{number}
use Rattle.words.specs.Kinds as k
use Rattle.words.specs.Answers.{Said, carried_says}

-- what can be read back is told apart
pub told : {A B : Type 0} (says : A → B) (read : B → A) → ((r : A) → read (says r) ≡ r) → (r s : A) → says r ≡ says s → r ≡ s
told says read back r s e = sym (back r) ∙ ap read e ∙ back s

-- what is given leaves no choice
pub both_given : {A W : Type 0} {a r s : A} {w x y : W} → (r ≡ a) × (x ≡ w) → (s ≡ a) × (y ≡ w) → (r ≡ s) × (x ≡ y)
both_given h k = (h.0 ∙ sym k.0, h.1 ∙ sym k.1)

-- nor does an answer of which it is given what it says
pub one_outcome : {A B W : Type 0} {says : A → B} {r s : A} {b : B} {x y w : W} → ((r s : A) → says r ≡ says s → r ≡ s)
    → (says r ≡ b) × (x ≡ w) → (says s ≡ b) × (y ≡ w) → (r ≡ s) × (x ≡ y)
one_outcome apart h k = let e = both_given h k in (apart _ _ e.0, e.1)

-- the same on both sides makes the same pair
pub both_same : {A W : Type 0} {r s : A} {x y : W} → r ≡ s → x ≡ y → ◌≡◌ {A = A × W} (r, x) (s, y)
both_same p q = rw (p, q)

-- the refusal of a number
abbrev pub refusal_of : ℕ → Refusal
refusal_of n =
    get_or (ShortList ∷ NoPool ∷ Unfinished ∷ Damaged ∷ NoRoom ∷ BadLog ∷ BadCapacity ∷ ShortSlice ∷ NoDesk ∷ FullDesk ∷ ShortMarks ∷ [])
    (n - 1) NoEvent

pub refusal_back : (why : Refusal) → refusal_of (number why) ≡ why
refusal_back ShortList = refl
refusal_back NoPool = refl
refusal_back Unfinished = refl
refusal_back Damaged = refl
refusal_back NoRoom = refl
refusal_back BadLog = refl
refusal_back BadCapacity = refl
refusal_back ShortSlice = refl
refusal_back NoDesk = refl
refusal_back FullDesk = refl
refusal_back ShortMarks = refl
refusal_back NoEvent = refl

carried_of : Said → Result (Unit {0}) Refusal
carried_of s = if eqb s.0 k.done then Ok tt else Err (refusal_of s.1)

carried_back : (r : Result (Unit {0}) Refusal) → carried_of (carried_says r) ≡ r
unfolding carried_of
carried_back (Ok _) = refl
carried_back (Err why) = ap Err (refusal_back why)

pub carried_told : (r s : Result (Unit {0}) Refusal) → carried_says r ≡ carried_says s → r ≡ s
carried_told = told carried_says carried_of carried_back
