-- Document 01: "Planning writes only the list, and of it only its events' words."
use Rattle.std.specs.Prelude.{ℕ, suc, ◌+◌, ◌*◌, ◌≡◌, List, [], ◌∷◌, length, set}
use Rattle.words.specs.declared.write.EventList.{EventList}
use Rattle.std.specs.Prelude.{Some as some}
use Rattle.words.specs.declared.event.Event.{Event}
use Rattle.words.specs.Event.{first_word, second_word, event_at}

-- the two words of an event that comes after n others, over those of the list
abbrev pub written_one : Event → ℕ → List ℕ → List ℕ
written_one e n l = set (set l (n * 2) (first_word e)) (n * 2 + 1) (second_word e)

-- the words of events that come after n others, over those of the list; no other word changes
unfoldable pub written : List Event → ℕ → List ℕ → List ℕ
written [] n l = l
written (e ∷ es) n l = written es (n + 1) (written_one e n l)

-- a call that was handed the lent list a, with events in it, wrote the events es after them: it counts them, and leaves the same list as b
pub record Wrote (es : List Event) (a b : EventList) : Type 0 where
  pub same : b.words.ghost_name ≡ a.words.ghost_name
  pub next : b.events ≡ a.events + length es
  pub list : b.words.now ≡ written es a.events a.words.now

-- the events of the list from event n on begin with es
abbrev pub Lists : List ℕ → ℕ → List Event → Type 0
Lists l n [] = Unit {0}
Lists l n (e ∷ es) = (event_at l n ≡ some e) × Lists l (suc n) es
