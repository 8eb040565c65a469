-- What carrying out one event answers and leaves: refusal 12 of document 01; and its promise.
use Rattle.std.specs.Prelude.{ℕ, zero, suc, ◌*◌, ◌≡◌, List, Bool, true, length, ltb, if◌then◌else◌, Result, Ok, Err}
use Rattle.std.specs.Prelude.{Option, Some as some, None as none}
use Rattle.words.specs.Pool.{line_words}
use Rattle.words.specs.declared.event.Event.{Event}
use Rattle.words.specs.declared.event.Event.TheVariants.{Store as store, Flush as flush, Fence as fence}
use Rattle.words.specs.Event.{step, event_at}
use Rattle.words.specs.declared.refusal.Refusal.{Refusal}
use Rattle.words.specs.declared.refusal.Refusal.TheVariants.{NoEvent}
use Rattle.words.specs.Answers.{carried_says}

-- not "the word or the line's first word outside the slice (a fence's number and the value of flush or fence are not looked at)"
abbrev pub inside : List ℕ → Event → Bool
inside m (store w v) = ltb w (length m)
inside m (flush l) = ltb (l * line_words) (length m)
inside m fence = true

-- the answer; none is "no such event in the list, kind not 1..3"
abbrev pub carried : List ℕ → Option Event → Result (Unit {0}) Refusal
carried m none = Err NoEvent
carried m (some e) = if inside m e then Ok tt else Err NoEvent

-- the pool after it: "Each [refusal] leaves everything lent unchanged"
abbrev pub after : List ℕ → Option Event → List ℕ
after m none = m
after m (some e) = if inside m e then step m e else m

-- "Every public call promises its answer and each word of pool, list ..": the pool is m before the call and m' after it; the list l is
-- lent only to read, and r is the answer
abbrev pub CarryPromise : List ℕ → List ℕ → ℕ → Result (Unit {0}) Refusal → List ℕ → Type 0
CarryPromise m l n r m' = (carried_says r ≡ carried_says (carried m (event_at l n))) × (m' ≡ after m (event_at l n))

-- the pool once c events of the list, from event n on, were carried out one after the other
unfoldable pub after_all : List ℕ → List ℕ → ℕ → ℕ → List ℕ
after_all m l n zero = m
after_all m l n (suc c) = after_all (after m (event_at l n)) l (suc n) c

-- and none of them was refused
unfoldable pub AllDone : List ℕ → List ℕ → ℕ → ℕ → Type 0
AllDone m l n zero = Unit {0}
AllDone m l n (suc c) = (carried m (event_at l n) ≡ Ok tt) × AllDone (after m (event_at l n)) l (suc n) c

-- carrying out so many events, from the first on
abbrev pub CarryAllPromise : List ℕ → List ℕ → ℕ → List ℕ → Type 0
CarryAllPromise m l events m' = m' ≡ after_all m l 1 events
