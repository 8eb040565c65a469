-- One pass over the names of a node, as the code makes it, says what the definitions say.
use mathlib.Core.Path.{◌≡◌, ◌∙◌, ap, sym, refl}
use mathlib.Core.List.{List, [], ◌∷◌, map}
use mathlib.Core.Bool.{Bool, true, false, ◌&&◌, and-false}
use Prim.Native.Nat.{ℕ, zero, suc, ◌+◌, ◌-◌, ◌/◌, ◌%◌, ◌≤◌, ◌<◌}
use native.Mathlib.Nat.{add-zero, zero-add}
use native.Mathlib.Omega.{arith}
use borrow.Author.Tests.{lt-ltb, le-leb, ltb-true, ltb-false, lt-leb, ne_eqb}
use lib.Dec.{ltb, leb, eqb}
use lib.ListN.{length, length-map}
use mir.Val.{bool_byte}
use Rattle.std.specs.Prelude.{if◌then◌else◌, Option, Some, None, is_some}
use Rattle.std.specs.Bool.{then_some}
use Rattle.std.proofs.lemmas.Option.{same_Some}
use Rattle.words.specs.Tests.{within}
use Rattle.words.specs.Event.{at}
use Rattle.words.proofs.Turns.{turn, over}
use Rattle.node.specs.Lists.{all_below, different, rising, covered, upto, last_of}
use Rattle.node.specs.Slot.{byte, bytes, count, names, entries}
use Rattle.node.specs.View.{View, slot_at, link_at, view, keys, entry, sound, good}
use Rattle.node.specs.inner.Looked.{Looked, ends}
use Rattle.node.specs.declared.cover.Look.{Look}
use Rattle.node.proofs.Passes.{follows, later, rises, final, final_is, turned, rises_covered, assembled}
use Rattle.node.proofs.Ranks.{rising_different}
use Rattle.node.proofs.Slots.{length_names, names_at}
use Rattle.node.proofs.Views.{key_of, keys_map}

-- f is the key of an entry, of which there are `most`: how many keys are not above the key, and the last; nothing where a name fails
module _ (f : ℕ → ℕ) (most key : ℕ) where
  abbrev pub walk : ℕ → ℕ → ℕ → List ℕ → Option Look
  walk j low after [] = Some (record { after = after; last = low })
  walk j low after (e ∷ es) =
      if ltb e most
      then (if follows j low (f e) then walk (j + 1) (f e) (after + bool_byte (leb (f e) key)) es else None)
      else None

  walk_good : (j low after : ℕ) (ns : List ℕ) → is_some (walk j low after ns) ≡ (all_below most ns && rises j low (map f ns))
  unfolding all_below rises
  walk_good j low after [] = refl
  walk_good j low after (e ∷ es) =
      good_if (ltb e most) (follows j low (f e)) _
      ∙ rw (walk_good (j + 1) (f e) (after + bool_byte (leb (f e) key)) es)
      (turned (ltb e most) (follows j low (f e)) (all_below most es) (rises (j + 1) (f e) (map f es)))
    where
      good_if : (a b : Bool) (l : Option Look)
          → is_some (if a then (if b then l else None) else None) ≡ (if a then (if b then is_some l else false) else false)
      good_if true true l = refl
      good_if true false l = refl
      good_if false b l = refl

  -- after a key that is above the one looked for, each key of a good node is
  past : (j low after : ℕ) (ns : List ℕ) (r : Look) → key < low → walk (j + 1) low after ns ≡ Some r → upto key (map f ns) ≡ 0
  unfolding upto
  past j low after [] r h g = refl
  past j low after (e ∷ es) r h g = go (ltb e most) (follows (j + 1) low (f e)) refl _ g
    where
      go : (a b : Bool) → follows (j + 1) low (f e) ≡ b → (l : Option Look) → (if a then (if b then l else None) else None) ≡ Some r
          → (if ltb key (f e) then 0 else suc (upto key (map f es))) ≡ 0
      go true true t l g =
          let u : low < f e = ltb-true low (f e) (rw (later j) at t) in
          rw (lt-ltb key (f e) (omega arith))
      go true false t l g = cc
      go false b t l g = cc

  walk_counts : (j low after : ℕ) (ns : List ℕ) (r : Look) → walk j low after ns ≡ Some r → r.after ≡ after + upto key (map f ns)
  unfolding upto
  walk_counts j low after [] r g = rw (← same_Some _ _ g) (sym (add-zero after))
  walk_counts j low after (e ∷ es) r g =
      go (ltb e most) (follows j low (f e)) (ltb key (f e)) refl (λ n. walk (j + 1) (f e) n es)
      (λ n q. walk_counts (j + 1) (f e) n es r q) (λ n h q. past j (f e) n es r h q) g
    where
      go : (a b s : Bool) → ltb key (f e) ≡ s → (l : ℕ → Option Look)
          → ((n : ℕ) → l n ≡ Some r → r.after ≡ n + upto key (map f es))
          → ((n : ℕ) → key < f e → l n ≡ Some r → upto key (map f es) ≡ 0)
          → (if a then (if b then l (after + bool_byte (leb (f e) key)) else None) else None) ≡ Some r
          → r.after ≡ after + (if s then 0 else suc (upto key (map f es)))
      go true true true u l i p g =
          let h : key < f e = ltb-true key (f e) u in
          let n : bool_byte (leb (f e) key) ≡ 0 = rw (lt-leb (f e) key h) in
          i (after + bool_byte (leb (f e) key)) g ∙ omega (arith, p (after + bool_byte (leb (f e) key)) h g)
      go true true false u l i p g =
          let n : bool_byte (leb (f e) key) ≡ 1 = rw (le-leb (f e) key (ltb-false key (f e) u)) in
          i (after + bool_byte (leb (f e) key)) g ∙ omega arith
      go true false s u l i p g = cc
      go false b s u l i p g = cc

  walk_last : (j low after : ℕ) (ns : List ℕ) (r : Look) → walk j low after ns ≡ Some r → r.last ≡ last_of low (map f ns)
  unfolding last_of
  walk_last j low after [] r g = ap (λ (l : Look). l.last) (sym (same_Some _ _ g))
  walk_last j low after (e ∷ es) r g =
      let more = after + bool_byte (leb (f e) key) in
      go (ltb e most) (follows j low (f e)) (walk (j + 1) (f e) more es) (walk_last (j + 1) (f e) more es r) g
    where
      go : (a b : Bool) (l : Option Look) → (l ≡ Some r → r.last ≡ last_of (f e) (map f es))
          → (if a then (if b then l else None) else None) ≡ Some r → r.last ≡ last_of (f e) (map f es)
      go true true l i g = i g
      go true false l i g = cc
      go false b l i g = cc

  -- one turn, and the end, over what is left of a word of names
  module _ (j low after n rest : ℕ) where
    module _ (h : j < n) {e : ℕ} (is : e ≡ rest % byte) where
      pub walk_high : ltb e most ≡ false → walk j low after (bytes (n - j) rest) ≡ None
      unfolding bytes
      walk_high t = rw (turn n j h, ← is, t)

      pub walk_fault : ltb e most ≡ true → follows j low (f e) ≡ false → walk j low after (bytes (n - j) rest) ≡ None
      unfolding bytes
      walk_fault t u = rw (turn n j h, ← is, t, u)

      pub walk_on : ltb e most ≡ true → follows j low (f e) ≡ true
          → walk j low after (bytes (n - j) rest)
          ≡ walk (j + 1) (f e) (after + bool_byte (leb (f e) key)) (bytes (n - (j + 1)) (rest / byte))
      unfolding bytes
      walk_on t u = rw (turn n j h, ← is, t, u)

    pub walk_end : n ≤ j → walk j low after (bytes (n - j) rest) ≡ Some (record { after = after; last = low })
    unfolding bytes
    walk_end h = rw (over n j h)

-- a node whose names were gone over from the first to the last, by the slot word w and the count n that the code has read
module _ (least from key : ℕ) (m : List ℕ) (k : ℕ) {w n : ℕ} (word : w ≡ at m (slot_at k)) (number : n ≡ count w) where
  tally : (b : Bool) → within least n entries ≡ b → within least (count (at m (slot_at k))) entries ≡ b
  tally b e = rw (← word, ← number) e

  -- the answer for a node that is not good
  unfit : within least (count (at m (slot_at k))) entries ≡ false → Looked least from key (view m k) None
  unfolding view good sound
  unfit t = λ hi. rw (length_names (at m (slot_at k)), t)

  pub too_few : n < least → Looked least from key (view m k) None
  too_few h = unfit (tally false (rw (lt-leb least n h)))

  pub too_many : entries < n → Looked least from key (view m k) None
  too_many h = unfit (tally false (rw (lt-leb n entries h) (and-false (leb least n))))

  -- a node that names no entry
  pub none_named : n ≡ 0 → Looked least from key (view m k) (then_some (eqb least 0) (record { after = 0; last = from }))
  unfolding view good sound names bytes all_below different rising covered upto last_of
  none_named z =
      let e : count (at m (slot_at k)) ≡ 0 = sym (number ∙ ap count word) ∙ z in
      rw e (few least)
    where
      empty : View
      empty = record { link = at m (link_at k); named = []; records = [] }

      few : (l : ℕ) → Looked l from key empty (then_some (eqb l 0) (record { after = 0; last = from }))
      few zero = record { good_is = λ hi. refl; after_is = refl; last_is = refl }
      few (suc l) = rw (ne_eqb (suc l) 0 (λ q. omega arith)) (λ hi. rw (lt-leb (suc l) 0 (omega arith)))

  abbrev whole : Option Look
  whole = walk (key_of m k) entries key 0 from 0 (names (at m (slot_at k)))

  -- of a node whose keys rise the last alone is held against an end
  whole_good : within least (count (at m (slot_at k))) entries ≡ true → (hi : ℕ)
      → good least from hi (view m k)
      ≡ (is_some whole && ends hi (length (view m k).records) (last_of from (keys (view m k).records)))
  unfolding view good sound
  whole_good counted hi =
      let ns = names (at m (slot_at k)) in
      let ks = map (key_of m k) ns in
      let many : 0 + length ks ≡ length (map (entry m k) ns) = zero-add _ ∙ length-map ns (key_of m k) ∙ sym (length-map ns (entry m k)) in
      let joined : (all_below entries ns && rises 0 from ks && final hi 0 from ks)
      ≡ (within least (length ns) entries && all_below entries ns && different ns && rising ks && covered from hi ks) =
      assembled (all_below entries ns) (different ns) (rises 0 from ks) (final hi 0 from ks)
      (rising ks) (covered from hi ks) (within least (length ns) entries)
      (rises_covered hi from ks) (rising_different (key_of m k) ns) (rw (length_names (at m (slot_at k))) counted) in
      rw (keys_map m k ns, ← joined, ← many, walk_good (key_of m k) entries key 0 from 0 ns, final_is hi 0 from ks)

  pub walked : least ≤ n → n ≤ entries → {r : Option Look}
      → walk (key_of m k) entries key 0 from 0 (bytes n (w / byte)) ≡ r → Looked least from key (view m k) r
  unfolding view
  walked h l {r = r} e = go r (rw (← word, ← names_at w number) e)
    where
      goods : (hi : ℕ) → good least from hi (view m k)
          ≡ (is_some whole && ends hi (length (view m k).records) (last_of from (keys (view m k).records)))
      goods = whole_good (tally true (rw (le-leb least n h, le-leb n entries l)))

      go : (r : Option Look) → whole ≡ r → Looked least from key (view m k) r
      go None is = λ hi. goods hi ∙ rw is
      go (Some r) is =
          let ns = names (at m (slot_at k)) in
          let last : r.last ≡ last_of from (keys (view m k).records) =
          rw (keys_map m k ns) (walk_last (key_of m k) entries key 0 from 0 ns r is) in
          record {
            good_is = λ hi. goods hi ∙ rw (is, last);
            after_is = rw (keys_map m k ns) (walk_counts (key_of m k) entries key 0 from 0 ns r is ∙ zero-add _);
            last_is = last;
          }
