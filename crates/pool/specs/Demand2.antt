-- Demand 2, as a type: the user's words stand at its end, clause by clause, and the parts they name above it. Throughout, m is the words
-- of a pool, l a lent list, f the map before a change and g the map after it.
use Rattle.std.specs.Prelude.{ℕ, ◌+◌, ◌*◌, ◌≤◌, ◌<◌, ◌≡◌, ◌⊎◌, List, [], length, take, Ok, Err}
use Rattle.words.specs.Pool.{form_at, pairs_most, capacity_most, list_words, events_most, total_of}
use Rattle.words.specs.declared.event.Event.{Event}
use Rattle.words.specs.Event.{at, run}
use Rattle.words.specs.Written.{Lists}
use Rattle.words.specs.Carry.{after_all, AllDone}
use Rattle.words.specs.Loss.{IsStore, Some, Safe, Cut}
use Rattle.words.specs.Cuts.{Found}
use Rattle.words.specs.declared.refusal.Refusal.{Refusal}
use Rattle.words.specs.declared.refusal.Refusal.TheVariants.{NoRoom}
use Rattle.node.specs.View.{no_end}
use Rattle.tree.specs.Header.{total_in}
use Rattle.tree.specs.WellFormed.{WellFormed}
use Rattle.tree.specs.Map.{Map, map_of}
use Rattle.change.specs.declared.Request.{Request}
use Rattle.change.specs.Gate.{Planned, events_of, list_after, refused}
use Rattle.change.specs.Format.{format}
use Rattle.change.specs.Recover.{recover, recovery}
use Rattle.change.specs.Room.{Crowded}
use Rattle.change.specs.Calls.{serve, serve_answer, key_of}
use Rattle.change.specs.Rule.{empty, rule}
use Rattle.change.specs.Told.{Told}

-- a well-formed pool, and the map that it is
pub record Holds (m : List ℕ) (f : Map) : Type 0 where
  pub well_formed : WellFormed m
  pub map_is : (key : ℕ) → map_of m key ≡ f key

-- "by 01's events in 01's order": the call leaves its events in the lent list l; each is carried out from there in turn, none is
-- refused 12, and they leave m'
pub record CarriedOut {A : Type 0} (p : Planned A) (m l m' : List ℕ) : Type 0 where
  pub listed : Lists (list_after p l) 1 p.events
  pub unrefused : AllDone m (list_after p l) 1 (length p.events)
  pub leaves : after_all m (list_after p l) 1 (length p.events) ≡ m'

-- "The lent slice may be longer; the rest is never touched": no event stores past the total ..
abbrev pub Untouched : ℕ → List Event → Type 0
Untouched total es = (w v : ℕ) → total ≤ w → ¬ Some (IsStore w v) es

-- .. and what stands there is as it was
pub record KeepsRest (total : ℕ) (m m' : List ℕ) : Type 0 where
  pub size : length m' ≡ length m
  pub rest : (w : ℕ) → total ≤ w → at m' w ≡ at m w

-- "Recovery accepts it": with a lent list l it is not refused, plans the same events as with any other, at most 31 pairs'
-- worth, and they can be carried out; after the last of them every word is safe
pub record Accepted (m l : List ℕ) : Type 0 where
  pub unrefused : (why : Refusal) → (recover (length l) m).answer ≡ Err why → ⊥
  pub plans : (recover (length l) m).events ≡ recovery m
  pub few : length (recovery m) ≤ 2 * pairs_most + 4
  pub carried : CarriedOut (recover (length l) m) m l (run m (recovery m))
  pub safe : (w : ℕ) → Safe m (recovery m) w
  pub untouched : Untouched (total_in m) (recovery m)

-- of a change on m from the map f to the map g by the events es, m' was found after n of them: "Recovery accepts it and leaves a
-- well-formed pool with the map before the change or after it; once the change's last event is done, only after."
pub record Settles (m : List ℕ) (es : List Event) (n : ℕ) (f g : Map) (m' : List ℕ) : Type 0 where
  pub accepted : (l : List ℕ) → list_words ≤ length l → Accepted m' l
  pub either : Holds (run m' (recovery m')) f ⊎ Holds (run m' (recovery m')) g
  pub only_after : length es ≤ n → Holds (run m' (recovery m')) g
  pub keeps : KeepsRest (total_in m) m (run m' (recovery m'))

-- the plan p of a call on m with the lent list l changes the map f to the map g, whole; and cut "after any event of a put, of a delete or
-- of recovery after it", "let each word hold any value that 01's rule of loss allows"
pub record Changes {A : Type 0} (m l : List ℕ) (p : Planned A) (f g : Map) : Type 0 where
  pub carried : CarriedOut p m l (run m p.events)
  pub holds : Holds (run m p.events) g
  pub safe : (w : ℕ) → Safe m p.events w
  pub untouched : Untouched (total_in m) p.events
  pub keeps : KeepsRest (total_in m) m (run m p.events)
  pub cut : (n : ℕ) (m' : List ℕ) → Found recovery m p.events n m' → Settles m p.events n f g m'

-- a request is refused 5, with no events, exactly where there is no room; else its answer and the map after it are those of the rule,
-- and so it is refused nothing
pub data Served (m l : List ℕ) (q : Request) : Type 0 where
  no_room : Crowded m q → serve (length l) m q ≡ refused NoRoom → Served m l q
  done : ¬ Crowded m q → (serve (length l) m q).answer ≡ Ok (rule q (map_of m)).0
      → Changes m l (serve (length l) m q) (map_of m) (rule q (map_of m)).1 → Served m l q

-- refusal 2, "word 0 not 1"
abbrev pub NoPool : List ℕ → Type 0
NoPool m = at m form_at ≡ 0

-- the plan p of format on whatever memory m: "20 events. Cut, it leaves what stood there or no pool (to event 2), no pool (3 to 17), no
-- pool or the empty one (18, 19)."
pub record Formats (m l : List ℕ) (capacity : ℕ) (p : Planned ℕ) : Type 0 where
  pub answer : p.answer ≡ Ok 20
  pub count : length p.events ≡ 20
  pub carried : CarriedOut p m l (run m p.events)
  pub holds : Holds (run m p.events) empty
  pub safe : (w : ℕ) → Safe m p.events w
  pub untouched : Untouched (total_of capacity) p.events
  pub keeps : KeepsRest (total_of capacity) m (run m p.events)
  pub to_2 : (n : ℕ) (m' : List ℕ) → n ≤ 2 → Cut m (take n p.events) m' → (m' ≡ m) ⊎ NoPool m'
  pub to_17 : (n : ℕ) (m' : List ℕ) → 3 ≤ n → n ≤ 17 → Cut m (take n p.events) m' → NoPool m'
  pub to_19 : (n : ℕ) (m' : List ℕ) → 18 ≤ n → n ≤ 19 → Cut m (take n p.events) m' → NoPool m' ⊎ (m' ≡ run m p.events)
  pub from_20 : (n : ℕ) (m' : List ℕ) → 20 ≤ n → Cut m (take n p.events) m' → m' ≡ run m p.events

-- "On a well-formed pool, fetch, put and delete answer and leave the map that 01 defines after the slot-only write-atomic tree of Chen and
-- Jin (VLDB 2015), by 01's events in 01's order. From such a pool, all words safe, cut the power after any event of a put, of a delete or
-- of recovery after it, and let each word hold any value that 01's rule of loss allows. Recovery accepts it and leaves a well-formed pool
-- with the map before the change or after it; once the change's last event is done, only after."
-- So for every well-formed pool, every list of 372 words or more and every request with a 64-bit key; and format, for every capacity.
-- This is all that the desks are built on: "The desk part is built on the pool part's promise alone".
pub record Demand2 : Type 0 where
  pub serves : (m l : List ℕ) (q : Request) → WellFormed m → list_words ≤ length l → key_of q < no_end → Served m l q
  -- power lost while nothing is carried out, or before the first event
  pub rests : (m : List ℕ) → WellFormed m → (n : ℕ) (m' : List ℕ) → Found recovery m [] n m' → Settles m [] n (map_of m) (map_of m) m'
  pub formats : (m l : List ℕ) (capacity : ℕ) → list_words ≤ length l → 1 ≤ capacity → capacity ≤ capacity_most
      → total_of capacity ≤ length m → Formats m l capacity (format (length l) (length m) capacity)
  -- "the list itself, its length the count", on whatever memory
  pub counts : (m l : List ℕ) (q : Request) → events_of (serve_answer m l q) ≡ length (serve (length l) m q).events
  -- no request plans more than the 186 events of the largest split, on whatever memory
  pub few : (m l : List ℕ) (q : Request) → length (serve (length l) m q).events ≤ events_most
  -- 01's counts, and what recover and check answer, on whatever memory
  pub told : Told
