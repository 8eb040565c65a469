-- The children of a node, from a slot on: the walk of the one in the slot, then of those after it.
use Prim.Native.Nat.{ℕ, suc, ◌+◌, ◌≤◌, ◌<◌}
use mathlib.Core.Path.{◌≡◌, refl, sym, ◌∙◌, ap}
use mathlib.Core.List.{List, [], ◌∷◌}
use native.Mathlib.Omega.{arith}
use native.Mathlib.Numerals.{add-one}
use lib.ListN.{length, get_or, drop, drop_of_length-le}
use lib.Seq.{drop-cons}
use Rattle.std.specs.Prelude.{Result, Ok, Err, Some, true}
use Rattle.words.specs.Event.{at}
use Rattle.node.specs.Slot.{count, names}
use Rattle.node.specs.View.{Record, sound, key_at, value_at}
use Rattle.node.specs.declared.layout.Node.{Node}
use Rattle.node.specs.inner.Said.{said}
use Rattle.node.proofs.Views.{view_length}
use Rattle.tree.specs.declared.descend.Fault.{Fault}
use Rattle.tree.specs.Kids as k
use Rattle.tree.specs.Check as t
use Rattle.tree.proofs.Kids.{sound_named, named_at}
use Rattle.walk.specs.declared.walking.Kid.{Kid}
use Rattle.walk.specs.declared.walking.Seen.{Seen}
use Rattle.walk.specs.inner.Checking.{kid_of, kids_left, seen_with, Walks}
use Rattle.walk.proofs.Walks.{stopped, carried}

-- the walk of some children, the first of which is walked by f
module _ (f : k.Kid → t.Seen → t.Walk) (c : k.Kid) (s : t.Seen) {m marks : List ℕ} where
  pub only : {r : Result Seen Fault} → Walks m (f c s) r marks → {cs : List k.Kid} → cs ≡ c ∷ [] → Walks m (t.each_child f cs s) r marks
  unfolding t.each_child
  only first e = rw e (carried (sym (go (f c s))) first)
    where
      go : (w : t.Walk) → t.onward (t.each_child f []) w ≡ w
      go (t.fault i l) = refl
      go (t.going s') = refl

  module _ {cs cs' : List k.Kid} (is : cs ≡ c ∷ cs') where
    pub stops : {e : Fault} → Walks m (f c s) (Err e) marks → Walks m (t.each_child f cs s) (Err e) marks
    unfolding t.each_child
    stops first = stopped (rw (is, ← first.walk_is))

    pub goes : {s' : Seen} → Walks m (f c s) (Ok s') marks → {r : Result Seen Fault} {marks' : List ℕ}
        → Walks m (t.each_child f cs' (seen_with s' marks)) r marks' → Walks m (t.each_child f cs s) r marks'
    unfolding t.each_child
    goes first = carried (rw (is, ← first.walk_is))

-- the children of a node from a slot on: the last one, or the one in the slot and those after it
module _ (j : Node) (slot : ℕ) (kid : Kid) where
  abbrev records : List Record
  records = (said j).records

  pub last_kid : slot ≡ count j.slot → kids_left j slot kid ≡ kid_of kid ∷ []
  last_kid e =
      let past : length records ≤ slot = omega (arith, view_length j.pool.now j.number, ap count j.slot_is) in
      let none : drop slot records ≡ [] = drop_of_length-le records past in
      rw none

  -- the entry that the slot names, its key and its child
  module _ (good : sound 0 (said j) ≡ true) (more : slot < count j.slot) {e : ℕ} (e_is : e ≡ get_or (names j.slot) slot 0)
      {key child : ℕ} (key_is : key ≡ at j.pool.now (key_at j.number e)) (child_is : child ≡ at j.pool.now (value_at j.number e)) where
    splits : drop slot records ≡ (key, child) ∷ drop (slot + 1) records
    splits =
        let there = named_at j.pool.now j.number j.slot (sound_named j good) slot more e_is in
        rw (add-one slot) (drop-cons records slot (0, 0) there.0
        ∙ ap (λ (x : Record). x ∷ drop (suc slot) records) (there.1 ∙ rw (← key_is, ← child_is)))

    pub next_kid : kids_left j slot kid ≡ kid_of (record kid { cover = record kid.cover { hi = Some key } })
        ∷ kids_left j (slot + 1) (record kid { number = child; cover = record kid.cover { lo = key } })
    next_kid = rw splits
