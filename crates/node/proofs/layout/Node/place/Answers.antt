-- `node::Node::place` meets its contract: the key before the child that covers the one looked for is at most that one.
use mathlib.Core.Path.{◌≡◌, ◌∙◌, sym}
use mathlib.Core.Bool.{true}
use Prim.Native.Nat.{ℕ, suc, ◌+◌, ◌-◌, ◌≤◌, ◌<◌}
use native.Mathlib.Omega.{arith}
use borrow.Author.Tests.{eq-eqb, ne_eqb}
use lib.Dec.{eqb}
use lib.ListN.{get_or}
use mir.Val.{bool_byte}
use Rattle.words.specs.Event.{at}
use Rattle.node.specs.Lists.{has, below, upto}
use Rattle.node.specs.Slot.{count, names, entries}
use Rattle.node.specs.View.{keys, key_at, sound}
use Rattle.node.specs.inner.Said.{said}
use Rattle.node.specs.declared.layout.Node.{Node}
use Rattle.node.proofs.Every.{below_at}
use Rattle.node.proofs.Ranks.{upto_length, placed_none, placed_last}
use Rattle.node.proofs.Slots.{length_names}
use Rattle.node.proofs.Views.{sound_parts, view_names, keys_many, key_at_place}
use Rattle.node.proofs.layout.Node.place.Goals as goal

module _ (n : Node) (after key : ℕ) (good : sound 0 (said n) ≡ true) (is : after ≡ upto key (keys (said n).records))
    (some : after ≡ 0 → ⊥) where
  last_named : after - 1 < count n.slot
  last_named =
      let most = upto_length key (keys (said n).records) in
      rw n.slot_is (omega (arith, most, keys_many n.pool.now n.number, is))

  few : count n.slot ≤ entries
  few = rw (n.slot_is, ← length_names, ← view_names n.pool.now n.number) (sound_parts (said n) good).0

  low : {e : ℕ} → e ≡ get_or (names n.slot) (after - 1) 0 → e < entries
  low e =
      let all = (sound_parts (said n) good).1 in
      rw (e, n.slot_is) (below_at entries (after - 1) _ (rw (view_names n.pool.now n.number) at all)
      (rw length_names (rw n.slot_is at last_named)))

  placed : {e x : ℕ} → e ≡ get_or (names n.slot) (after - 1) 0 → x ≡ at n.pool.now (key_at n.number e)
      → (eqb x key ≡ has key (keys (said n).records))
      × (below key (keys (said n).records) + bool_byte (has key (keys (said n).records)) ≡ after)
  placed e x =
      let last : upto key (keys (said n).records) ≡ suc (after - 1) = sym is ∙ omega arith in
      let p = placed_last key (keys (said n).records) (sound_parts (said n) good).2 (after - 1) last in
      let i = rw n.slot_is at last_named in
      (rw (x, e, n.slot_is, ← key_at_place n.pool.now n.number (after - 1) i) (sym p.0), p.1 ∙ omega arith)

pub returns-then-after-eq0 : goal.returns-then-after-eq0
returns-then-after-eq0 c =
    let p = placed_none c.args.key _ (sound_parts _ c.requires.sound).2 (sym c.requires.after_value ∙ c.if-after-eq0.true) in
    (sym p.0, p.1)

pub name-requires : goal.name-requires
name-requires c =
    let a = c.args in
    let r = c.requires in
    let z = c.if-after-eq0.false in
    (last_named a.self a.after a.key r.sound r.after_value z, few a.self a.after a.key r.sound r.after_value z)

pub key-requires : goal.key-requires
key-requires c =
    let a = c.args in
    let r = c.requires in
    low a.self a.after a.key r.sound r.after_value c.if-after-eq0.false c.name.ensures

pub returns-then-key : goal.returns-then-key
returns-then-key c =
    let a = c.args in
    let r = c.requires in
    let p = placed a.self a.after a.key r.sound r.after_value c.if-after-eq0.false c.name.ensures c.key.ensures in
    let absent = sym p.0 ∙ ne_eqb _ _ c.if-key.true in
    (omega (arith, rw absent at p.1), absent)

pub returns : goal.returns
returns c =
    let a = c.args in
    let r = c.requires in
    let p = placed a.self a.after a.key r.sound r.after_value c.if-after-eq0.false c.name.ensures c.key.ensures in
    let there = sym p.0 ∙ eq-eqb _ _ c.if-key.false in
    (omega (arith, rw there at p.1), there)
