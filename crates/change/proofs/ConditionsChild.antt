-- The child that covers a key, in 01's words, is the child that the way down picks.
use Prim.Native.Nat.{ℕ, zero, suc, ◌+◌, ◌≤◌, ◌<◌}
use mathlib.Core.Path.{◌≡◌, refl, sym, ◌∙◌, ap}
use mathlib.Core.List.{List, [], ◌∷◌}
use mathlib.Core.Bool.{Bool, true, false}
use native.Mathlib.Numerals.{add-one}
use native.Mathlib.Omega.{arith}
use lib.ListN.{length, get_or, length-map}
use lib.Dec.{ltb}
use borrow.Author.Tests.{ltb-true, ltb-false, lt-ltb, le-ltb}
use Rattle.std.specs.Prelude.{if◌then◌else◌}
use Rattle.node.specs.Lists.{rising}
use Rattle.node.specs.View.{Record, view, keys}
use Rattle.node.proofs.Every.{every_at}
use Rattle.node.proofs.Ranks.{rising_cons}
use Rattle.node.proofs.Views.{view_length, record_at}
use Rattle.tree.specs.Kids.{Kid, kid, pick_from, pick}
use Rattle.change.specs.Conditions as w
use Rattle.change.proofs.ConditionsNode.{name_is}

-- the child that covers a key, by its place among the records
abbrev key_of : List Record → ℕ → ℕ
key_of rs i = (get_or rs i (0, 0)).0

abbrev child_of : List Record → ℕ → ℕ
child_of rs i = (get_or rs i (0, 0)).1

data PickAt (key l lo hi : ℕ) (rs : List Record) : Kid → Type 0 where
  at_first : key < key_of rs 0 → PickAt key l lo hi rs (kid l lo (key_of rs 0))
  at_next : (i : ℕ) → suc i < length rs → key_of rs i ≤ key → key < key_of rs (suc i)
      → PickAt key l lo hi rs (kid (child_of rs i) (key_of rs i) (key_of rs (suc i)))
  at_last : (i : ℕ) → suc i ≡ length rs → key_of rs i ≤ key → PickAt key l lo hi rs (kid (child_of rs i) (key_of rs i) hi)

module _ (key hi : ℕ) where
  -- a child further on
  further : {l lo : ℕ} {c : Kid} (r s : Record) (rs : List Record) → r.0 ≤ key → PickAt key r.1 r.0 hi (s ∷ rs) c
      → PickAt key l lo hi (r ∷ s ∷ rs) c
  further r s rs h (at_first g) = at_next 0 (omega arith) h g
  further r s rs h (at_next i b g k) = at_next (suc i) (omega arith) g k
  further r s rs h (at_last i b g) = at_last (suc i) (omega arith) g

  pick_at : (l lo : ℕ) (rs : List Record) → 1 ≤ length rs → PickAt key l lo hi rs (pick_from key l lo hi rs)
  unfolding pick_from
  pick_at l lo [] some = absurd (omega arith)
  pick_at l lo (r ∷ []) some = go (ltb key r.0) refl
    where
      go : (b : Bool) → ltb key r.0 ≡ b → PickAt key l lo hi (r ∷ []) (if b then kid l lo r.0 else kid r.1 r.0 hi)
      go true e = at_first (ltb-true key r.0 e)
      go false e = at_last 0 refl (ltb-false key r.0 e)
  pick_at l lo (r ∷ (s ∷ rs)) some = go (ltb key r.0) refl (pick_at r.1 r.0 (s ∷ rs) (omega arith))
    where
      go : (b : Bool) → ltb key r.0 ≡ b → {c : Kid} → PickAt key r.1 r.0 hi (s ∷ rs) c
          → PickAt key l lo hi (r ∷ s ∷ rs) (if b then kid l lo r.0 else c)
      go true e p = at_first (ltb-true key r.0 e)
      go false e p = further r s rs (ltb-false key r.0 e) p

  keys_at : (rs : List Record) (i : ℕ) → get_or (keys rs) i 0 ≡ key_of rs i
  keys_at [] i = refl
  keys_at (r ∷ rs) zero = refl
  keys_at (r ∷ rs) (suc i) = keys_at rs i

  -- the first of rising keys is not above a key that a later one is not above
  first_low : (r : Record) (rs : List Record) (i : ℕ) → rising (keys (r ∷ rs)) ≡ true → i < length rs → key_of rs i ≤ key → r.0 ≤ key
  first_low r rs i t h g =
      let j : i < length (keys rs) = rw (length-map rs (λ (r : Record). r.0)) h in
      let u : r.0 < get_or (keys rs) i 0 =
      ltb-true r.0 (get_or (keys rs) i 0) (every_at (λ y. ltb r.0 y) i (keys rs) (rising_cons r.0 (keys rs) t).0 j) in
      omega (arith, keys_at rs i)

  pick_one : {l lo : ℕ} {c : Kid} (rs : List Record) → 1 ≤ length rs → rising (keys rs) ≡ true → PickAt key l lo hi rs c
      → pick_from key l lo hi rs ≡ c
  unfolding pick_from
  pick_one [] some t p = absurd (omega arith)
  pick_one (r ∷ rs) some t (at_first h) = rw (lt-ltb key r.0 h)
  pick_one (r ∷ []) some t (at_next zero b h g) = absurd (omega arith)
  pick_one (r ∷ (s ∷ rs)) some t (at_next zero b h g) = rw (le-ltb key r.0 h, lt-ltb key s.0 g)
  pick_one (r ∷ rs) some t (at_next (suc i) b h g) =
      rw (le-ltb key r.0 (first_low r rs i t (omega arith) h))
      (pick_one rs (omega arith) (rising_cons r.0 (keys rs) t).1 (at_next i (omega arith) h g))
  pick_one (r ∷ []) some t (at_last zero b h) = rw (le-ltb key r.0 h)
  pick_one (r ∷ (s ∷ rs)) some t (at_last zero b h) = absurd (omega arith)
  pick_one (r ∷ rs) some t (at_last (suc i) b h) =
      rw (le-ltb key r.0 (first_low r rs i t (omega arith) h))
      (pick_one rs (omega arith) (rising_cons r.0 (keys rs) t).1 (at_last i (omega arith) h))

-- 01's words of a child
module _ (m : List ℕ) (k : ℕ) where
  abbrev rs : List Record
  rs = (view m k).records

  link_is : (view m k).link ≡ w.leftmost m k
  unfolding view
  link_is = refl

  many_is : length rs ≡ w.count m k
  many_is = view_length m k

  record_is : (i : ℕ) → i < w.count m k → get_or rs i (0, 0) ≡ (w.key_in m k i, w.child_in m k i)
  record_is i h = record_at m k i (0, 0) h ∙ rw (name_is m k i h) refl

  key_is : (i : ℕ) → i < w.count m k → key_of rs i ≡ w.key_in m k i
  key_is i h = ap (λ (r : Record). r.0) (record_is i h)

  child_is : (i : ℕ) → i < w.count m k → child_of rs i ≡ w.child_in m k i
  child_is i h = ap (λ (r : Record). r.1) (record_is i h)

  next_is : (i : ℕ) → i + 1 < w.count m k → key_of rs (suc i) ≡ w.key_in m k (i + 1)
  next_is i h = ap (key_of rs) (sym (add-one i)) ∙ key_is (i + 1) h

  module _ {levels lo hi : ℕ} (f : w.Fit m (suc levels) k lo hi) where
    some_keys : 1 ≤ w.count m k
    some_keys = f.sound.inner (omega arith)

    to_child : {key : ℕ} {c : Kid} → PickAt key (view m k).link lo hi rs c → w.Child m key k lo hi c.number c.from c.upto
    to_child (at_first h) = let e = key_is 0 some_keys in rw (link_is, e) (w.first (omega arith))
    to_child (at_next i b h g) =
        let l : i + 1 < w.count m k = omega (arith, many_is) in
        let e = key_is i (omega arith) in
        let d = next_is i l in
        rw (e, d, child_is i (omega arith)) (w.next i l (omega arith) (omega arith))
    to_child (at_last i b h) =
        let l : i + 1 ≡ w.count m k = omega (arith, many_is) in
        let e = key_is i (omega arith) in
        rw (e, child_is i (omega arith)) (w.last i l (omega arith))

    from_child : {key k' lo' hi' : ℕ} → w.Child m key k lo hi k' lo' hi' → PickAt key (view m k).link lo hi rs (kid k' lo' hi')
    from_child (w.first h) = let e = key_is 0 some_keys in rw (← link_is, ← e) (at_first (omega arith))
    from_child (w.next i b h g) =
        let e = key_is i (omega arith) in
        let d = next_is i b in
        rw (← e, ← d, ← child_is i (omega arith)) (at_next i (omega (arith, many_is)) (omega arith) (omega arith))
    from_child (w.last i b h) =
        let e = key_is i (omega arith) in
        rw (← e, ← child_is i (omega arith)) (at_last i (omega (arith, many_is)) (omega arith))

    pub pick_child : (key : ℕ) → let c = pick key (kid k lo hi) (view m k) in w.Child m key k lo hi c.number c.from c.upto
    pick_child key = to_child (pick_at key hi (view m k).link lo rs (omega (arith, many_is, some_keys)))

    pub child_picked : {key k' lo' hi' : ℕ} → rising (keys rs) ≡ true → w.Child m key k lo hi k' lo' hi'
        → pick key (kid k lo hi) (view m k) ≡ kid k' lo' hi'
    child_picked {key} t c = pick_one key hi rs (omega (arith, many_is, some_keys)) t (from_child c)
