-- Slips in a call or in its promise, each refuted at one input, or at all of a kind: there the promise forbids what the slip answers or
-- leaves, or the slip leaves a choice.
use Prim.Native.Nat.{ℕ, ◌+◌, ◌*◌, ◌<◌, ◌≤◌}
use mathlib.Core.Path.{◌≡◌, refl, ◌∙◌, ap}
use mathlib.Core.Logic.{◌≢◌}
use mathlib.Core.List.{List, [], ◌∷◌, map}
use native.Mathlib.Omega.{arith}
use lib.ListN.{replicate, set}
use lib.Seq.{get_or-set_same, get_or-set_other}
use Rattle.std.specs.Prelude.{Result, Ok, Err}
use Rattle.words.specs.Lists.{count_from}
use Rattle.words.specs.Pool.{pairs_at, pairs_most, nodes_at}
use Rattle.words.specs.declared.event.Event.{Event}
use Rattle.words.specs.declared.event.Event.TheVariants.{Store as store, Flush as flush}
use Rattle.words.specs.Event.{at, first_word, second_word, event_at}
use Rattle.words.specs.Written.{written, Wrote}
use Rattle.words.specs.declared.write.EventList.{EventList}
use Rattle.words.specs.Refusals.{number}
use Rattle.words.specs.declared.refusal.Refusal.{Refusal}
use Rattle.words.specs.declared.refusal.Refusal.TheVariants.{ShortList, NoPool, Unfinished, Damaged, NoRoom, BadLog}
use Rattle.words.specs.declared.refusal.Refusal.TheVariants.{BadCapacity, ShortSlice, NoDesk, FullDesk, ShortMarks, NoEvent}
use Rattle.words.specs.Kinds as k
use Rattle.words.specs.Answers.{Said, refused, carried_says}
use Rattle.words.specs.Carry.{carried, after, CarryPromise, after_all, CarryAllPromise}

-- a list of one event
abbrev one : Event → List ℕ
one e = first_word e ∷ second_word e ∷ []

-- a flush is tested by another word than its line's first: of nine words, line 1 begins at the last
pub flush_word : ¬ CarryPromise (replicate 9 0) (one (flush 1)) 1 (Err NoEvent) (replicate 9 0)
flush_word p = let h : k.refused ≡ k.done = ap (λ (s : Said). s.0) p.0 in omega arith

-- the kind is taken by a wrong shift, so that a store is taken for a flush and leaves the pool as it was
pub kind_shift : ¬ CarryPromise (0 ∷ []) (one (store 0 5)) 1 (Ok tt) (0 ∷ [])
kind_shift p = let h : at (0 ∷ []) 0 ≡ 5 = ap (λ (m : List ℕ). at m 0) p.1 in omega arith

-- the event's first word is stored in place of the value
pub value_word : ¬ CarryPromise (0 ∷ []) (one (store 0 5)) 1 (Ok tt) (first_word (store 0 5) ∷ [])
value_word p = let h : first_word (store 0 5) ≡ 5 = ap (λ (m : List ℕ). at m 0) p.1 in omega arith

-- the first event is left out
pub first_event : ¬ CarryAllPromise (0 ∷ []) (one (store 0 5)) 1 (0 ∷ [])
unfolding after_all
first_event p = let h : at (0 ∷ []) 0 ≡ 5 = ap (λ (m : List ℕ). at m 0) p in omega arith

-- the first event of a list, a store, is read in its first word
first_store : {a b : EventList} → a.events ≡ 0 → Wrote (store 0 5 ∷ []) a b → at b.words.now 0 ≡ first_word (store 0 5)
unfolding written
first_store {a} none p =
    let w = a.words.now in
    let e = first_word (store 0 5) in
    ap (λ (m : List ℕ). at m 0) p.list
    ∙ rw none (get_or-set_other (set w 0 e) 1 0 5 0 (omega arith) ∙ get_or-set_same w 0 e 0 (omega (arith, a.long)))

-- a store is written as a flush
pub store_kind : {a b : EventList} → a.events ≡ 0 → at b.words.now 0 ≡ first_word (flush 0) → ¬ Wrote (store 0 5 ∷ []) a b
store_kind none slip p = let h = first_store none p in omega arith

-- the value is written over the first word
pub write_place : {a b : EventList} → a.events ≡ 0 → at b.words.now 0 ≡ 5 → ¬ Wrote (store 0 5 ∷ []) a b
write_place none slip p = let h = first_store none p in omega arith

-- both of these slips in a list of two words, shorter than any that is written into
abbrev TwoWords : ℕ → ℕ → Type 0
TwoWords a b = a ∷ b ∷ [] ≡ written (store 0 5 ∷ []) 0 (0 ∷ 0 ∷ [])

pub store_kind_two : ¬ TwoWords (first_word (flush 0)) 5
unfolding written
store_kind_two p = let h : first_word (flush 0) ≡ first_word (store 0 5) = ap (λ (m : List ℕ). at m 0) p in omega arith

pub write_place_two : ¬ TwoWords 5 0
unfolding written
write_place_two p = let h : 5 ≡ first_word (store 0 5) = ap (λ (m : List ℕ). at m 0) p in omega arith

-- 31 pairs fit between commit word and nodes, and 32 do not
pub log_holds : (pairs_at + 2 * pairs_most ≤ nodes_at) × (nodes_at < pairs_at + 2 * (pairs_most + 1))
log_holds = (omega arith, omega arith)

-- the twelve refusals, in the order of 01's numbers
pub numbers :
    map number (ShortList ∷ NoPool ∷ Unfinished ∷ Damaged ∷ NoRoom ∷ BadLog ∷ BadCapacity ∷ ShortSlice ∷ NoDesk ∷ FullDesk ∷ ShortMarks
    ∷ NoEvent ∷ []) ≡ count_from 1 12
numbers = refl

-- a promise of the answer's case alone: where there is no such event, a refusal of any number keeps it
abbrev CaseAlone : List ℕ → List ℕ → ℕ → Result (Unit {0}) Refusal → List ℕ → Type 0
CaseAlone m l n r m' = ((carried_says r).0 ≡ (carried_says (carried m (event_at l n))).0) × (m' ≡ after m (event_at l n))

pub case_alone :
    CaseAlone [] [] 1 (Err NoEvent) [] × CaseAlone [] [] 1 (Err NoRoom) []
    × (◌≢◌ {A = Result (Unit {0}) Refusal} (Err NoEvent) (Err NoRoom))
case_alone = ((refl, refl), (refl, refl), λ e. cc)

-- answers of which done and refusal 12 say the same
abbrev confused : Result (Unit {0}) Refusal → Said
confused (Ok _) = refused NoEvent
confused (Err why) = refused why

pub answers_confused : ¬ ((r s : Result (Unit {0}) Refusal) → confused r ≡ confused s → r ≡ s)
answers_confused f =
    let e : ◌≡◌ {A = Result (Unit {0}) Refusal} (Ok tt) (Err NoEvent) = f (Ok tt) (Err NoEvent) refl in cc
