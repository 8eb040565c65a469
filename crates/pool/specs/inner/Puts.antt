-- What the steps of a put ask of the leaf.
use Rattle.std.specs.Prelude.{ℕ, ◌≡◌, List, Result, Ok, Err}
use Rattle.words.specs.declared.write.EventList.{EventList}
use Rattle.words.specs.declared.refusal.Refusal.{Refusal}
use Rattle.words.specs.Written.{Wrote}
use Rattle.node.specs.Slot.{count, names, entries}
use Rattle.node.specs.View.{Record, View, rank}
use Rattle.tree.specs.Path.{way_to}
use Rattle.tree.specs.declared.descend.Seat.{Seat}
use Rattle.change.specs.declared.Answer.{Answer}
use Rattle.change.specs.declared.Outcome.{Outcome}
use Rattle.change.specs.declared.Outcome.TheVariants.{New}
use Rattle.change.specs.Gate.{Planned, at_leaf}
use Rattle.change.specs.Put.{replace_events, fill_events, put_at}
use Rattle.pool.specs.inner.Passing.{Admitted}

-- a leaf that says u has this slot word, and a key this rank there
pub record Says (u : View) (key slot r : ℕ) : Type 0 where
  pub names_are : u.named ≡ names slot
  pub rank_is : rank u key ≡ r

-- a step handed the list l wrote the events of a present key's put, whatever leaf and key the seat stands for
abbrev pub Replaces : Seat → ℕ → ℕ → EventList → EventList → Type 0
Replaces s r value l l' = (u : View) (key : ℕ) → Says u key s.slot r → Wrote (replace_events s.leaf u (key, value)) l l'

-- and those of a put into a leaf that is not full
abbrev pub Fills : Seat → ℕ → Record → EventList → EventList → Type 0
Fills s r x l l' = (u : View) → Says u x.0 s.slot r → Wrote (fill_events s.leaf u x) l l'

-- the way down to a key found its leaf, which is full and has not the key: the key's rank there
pub record Full (m : List ℕ) (key rank : ℕ) : Type 0 where
  pub leaf : ℕ
  pub slot : ℕ
  pub admitted : Admitted m key (record { leaf = leaf; slot = slot; place = Err rank })
  pub full : count slot ≡ entries

-- a new record, with its event count
abbrev pub new_with : Result ℕ Refusal → Result Answer Refusal
new_with (Ok n) = Ok (record { outcome = New; events = n })
new_with (Err why) = Err why

-- what a put does at the leaf
abbrev pub put_there : List ℕ → ℕ → ℕ → Planned Outcome
put_there m key value = at_leaf (put_at m key value) (way_to m key)
