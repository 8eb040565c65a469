-- Loops that write: what is left of their events.
use Prim.Native.Nat.{◌+◌}
use mathlib.Core.Path.{◌≡◌, ◌∙◌}
use mathlib.Core.List.{List, [], ◌++◌}
use native.Mathlib.Omega.{arith}
use lib.ListN.{length, length-append}
use Rattle.words.specs.declared.write.EventList.{EventList}
use Rattle.words.specs.declared.event.Event.{Event}
use Rattle.words.specs.Written.{written, Wrote}
use Rattle.words.proofs.Written.{written_append}

-- of the events es, to be written after those of a, the events fs are left, and the list is b
pub record Left (es : List Event) (a : EventList) (fs : List Event) (b : EventList) : Type 0 where
  pub same : b.words.ghost_name ≡ a.words.ghost_name
  pub count : b.events + length fs ≡ a.events + length es
  pub list : written fs b.events b.words.now ≡ written es a.events a.words.now

pub left_on : {es fs gs : List Event} {a b c : EventList} → Left es a (gs ++ fs) b → Wrote gs b c → Left es a fs c
left_on {fs = fs} {gs} {b = b} l w = record {
  same = w.same ∙ l.same;
  count = omega (arith, l.count, w.next, length-append gs fs);
  list = rw (w.list, w.next, ← written_append gs fs b.events b.words.now) l.list;
}

pub left_none : {es : List Event} {a b : EventList} → Left es a [] b → Wrote es a b
unfolding written
left_none l = record { same = l.same; next = omega (arith, l.count); list = l.list }
