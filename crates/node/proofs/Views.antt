-- What a node says hangs on its slot word, its link and the entries that it names, and on no other word.
use mathlib.Core.Path.{◌≡◌, ◌∙◌, ap, refl}
use mathlib.Core.List.{List, [], ◌∷◌, map}
use mathlib.Core.Bool.{true, ◌&&◌, or-true}
use Prim.Native.Nat.{ℕ, zero, suc, ◌+◌, ◌*◌, ◌≤◌, ◌<◌}
use native.Mathlib.Nat.{add-zero}
use native.Mathlib.Omega.{arith}
use borrow.Author.Tests.{eq-eqb, ltb-true, leb-true, le-leb}
use lib.Dec.{ltb, leb, eqb}
use lib.ListN.{length, get_or, length-map}
use Rattle.words.specs.Tests.{within}
use Rattle.words.specs.Pool.{node_at, node_words}
use Rattle.words.specs.Event.{at}
use Rattle.node.specs.Lists.{has, all_below, different, rising, covered}
use Rattle.node.specs.Slot.{names, count, entries}
use Rattle.node.specs.View.{Record, View, view, slot_at, link_at, key_at, entry, keys, sound, good}
use Rattle.words.proofs.Tests.{both}
use Rattle.node.proofs.Every.{every_has, below_every}
use Rattle.node.proofs.Slots.{length_names}

pub map_same : (f g : ℕ → Record) (ns : List ℕ) → ((e : ℕ) → has e ns ≡ true → f e ≡ g e) → map f ns ≡ map g ns
unfolding has
map_same f g [] same = refl
map_same f g (n ∷ ns) same =
    rw (same n (rw (eq-eqb n n refl)), map_same f g ns (λ e h. same e (rw h (or-true (eqb e n)))))

-- the key of entry e of node k, and the keys of records
abbrev pub key_of : List ℕ → ℕ → ℕ → ℕ
key_of m k e = at m (key_at k e)

pub keys_map : (m : List ℕ) (k : ℕ) (ns : List ℕ) → keys (map (entry m k) ns) ≡ map (key_of m k) ns
keys_map m k [] = refl
keys_map m k (e ∷ es) = ap (λ (l : List ℕ). key_of m k e ∷ l) (keys_map m k es)

map_at : {A : Type 0} (f : ℕ → A) (ns : List ℕ) (i : ℕ) (d : A) → i < length ns → get_or (map f ns) i d ≡ f (get_or ns i 0)
map_at f [] i d h = absurd (omega arith)
map_at f (n ∷ ns) zero d h = refl
map_at f (n ∷ ns) (suc i) d h = map_at f ns i d (omega arith)

module _ (m m' : List ℕ) (k : ℕ) where
  pub view_same : at m (slot_at k) ≡ at m' (slot_at k) → at m (link_at k) ≡ at m' (link_at k)
      → ((e : ℕ) → has e (names (at m (slot_at k))) ≡ true → entry m k e ≡ entry m' k e) → view m k ≡ view m' k
  unfolding view
  view_same slot link same =
      let ns = names (at m (slot_at k)) in
      rw (← slot, ← link, map_same (entry m k) (entry m' k) ns same)

  pub view_words : ((i : ℕ) → i < node_words → at m (node_at k + i) ≡ at m' (node_at k + i))
      → all_below entries (names (at m (slot_at k))) ≡ true → view m k ≡ view m' k
  view_words words low = view_same (rw (add-zero (node_at k)) at (words 0 (omega arith))) (words 1 (omega arith)) both_words
    where
      both_words : (e : ℕ) → has e (names (at m (slot_at k))) ≡ true → entry m k e ≡ entry m' k e
      both_words e h =
          let ns = names (at m (slot_at k)) in
          let l : e < entries = ltb-true e entries (every_has (λ x. ltb x entries) e ns (rw (below_every entries ns) at low) h) in
          rw (words (2 + 2 * e) (omega arith), words (3 + 2 * e) (omega arith))

-- the tests of a good node, apart
pub record Good (least lo hi : ℕ) (u : View) : Type 0 where
  pub least_named : least ≤ length u.named
  pub most_named : length u.named ≤ entries
  pub names_low : all_below entries u.named ≡ true
  pub names_differ : different u.named ≡ true
  pub keys_rise : rising (keys u.records) ≡ true
  pub keys_covered : covered lo hi (keys u.records) ≡ true

module _ {least lo hi : ℕ} {u : View} where
  pub good_parts : good least lo hi u ≡ true → Good least lo hi u
  unfolding good sound
  good_parts t =
      let n = length u.named in
      let ks = keys u.records in
      let a = both {a = sound least u} {b = covered lo hi ks} t in
      let b = both {a = within least n entries && all_below entries u.named && different u.named} {b = rising ks} a.0 in
      let c = both {a = within least n entries && all_below entries u.named} {b = different u.named} b.0 in
      let d = both {a = within least n entries} {b = all_below entries u.named} c.0 in
      let e = both {a = leb least n} {b = leb n entries} d.0 in
      record {
        least_named = leb-true least n e.0;
        most_named = leb-true n entries e.1;
        names_low = d.1;
        names_differ = c.1;
        keys_rise = b.1;
        keys_covered = a.1;
      }

  pub parts_good : Good least lo hi u → good least lo hi u ≡ true
  unfolding good sound
  parts_good g =
      rw (
        le-leb least (length u.named) g.least_named,
        le-leb (length u.named) entries g.most_named,
        g.names_low,
        g.names_differ,
        g.keys_rise,
        g.keys_covered,
      )

-- a good node is sound, with no least
pub good_sound : {least lo hi : ℕ} (u : View) → Good least lo hi u → sound 0 u ≡ true
unfolding sound
good_sound u g =
    rw (
      le-leb 0 (length u.named) (omega arith),
      le-leb (length u.named) entries g.most_named,
      g.names_low,
      g.names_differ,
      g.keys_rise,
    )

-- the parts of a sound node
pub sound_parts : (u : View) → sound 0 u ≡ true
    → (length u.named ≤ entries) × (all_below entries u.named ≡ true) × (rising (keys u.records) ≡ true)
unfolding sound
sound_parts u t =
    let n = length u.named in
    let b = both {a = within 0 n entries && all_below entries u.named && different u.named} {b = rising (keys u.records)} t in
    let c = both {a = within 0 n entries && all_below entries u.named} {b = different u.named} b.0 in
    let d = both {a = within 0 n entries} {b = all_below entries u.named} c.0 in
    (leb-true n entries (both {a = leb 0 n} {b = leb n entries} d.0).1, d.1, b.1)

-- the parts of a view: as many as the count says, each record that of its name
module _ (m : List ℕ) (k : ℕ) where
  pub view_names : (view m k).named ≡ names (at m (slot_at k))
  unfolding view
  view_names = refl

  pub view_keys : keys (view m k).records ≡ map (key_of m k) (view m k).named
  unfolding view
  view_keys = keys_map m k (names (at m (slot_at k)))

  pub view_length : length (view m k).records ≡ count (at m (slot_at k))
  unfolding view
  view_length = length-map (names (at m (slot_at k))) (entry m k) ∙ length_names (at m (slot_at k))

  pub keys_many : length (keys (view m k).records) ≡ count (at m (slot_at k))
  keys_many = length-map (view m k).records (λ (r : Record). r.0) ∙ view_length

  pub record_at : (i : ℕ) (d : Record) → i < count (at m (slot_at k))
      → get_or (view m k).records i d ≡ entry m k (get_or (names (at m (slot_at k))) i 0)
  unfolding view
  record_at i d h = map_at (entry m k) (names (at m (slot_at k))) i d (rw (length_names (at m (slot_at k))) h)

  pub key_at_place : (i : ℕ) → i < count (at m (slot_at k))
      → get_or (keys (view m k).records) i 0 ≡ at m (key_at k (get_or (names (at m (slot_at k))) i 0))
  unfolding view
  key_at_place i h =
      ap (λ (l : List ℕ). get_or l i 0) (keys_map m k (names (at m (slot_at k))))
      ∙ map_at (key_of m k) (names (at m (slot_at k))) i 0 (rw (length_names (at m (slot_at k))) h)
