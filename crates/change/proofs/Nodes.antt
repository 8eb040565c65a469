-- What a node says once pairs were stored to its words: a record taken out, replaced or put in.
use Prim.Native.Nat.{ℕ, zero, suc, ◌+◌, ◌≤◌, ◌<◌}
use mathlib.Core.Path.{◌≡◌, refl, sym, ◌∙◌, ap}
use mathlib.Core.Logic.{⊎_elim}
use mathlib.Core.List.{List, [], ◌∷◌, ◌++◌, map}
use mathlib.Core.Bool.{true, false, and-false}
use native.Mathlib.Omega.{arith}
use lib.ListN.{length, get_or, set, length-map, get_or-map}
use lib.Dec.{ltb, lit≤}
use borrow.Author.Tests.{lt-ltb, eq-eqb, ltb-true}
use Rattle.words.specs.Pool.{node_at, node_words}
use Rattle.words.specs.Event.{at}
use Rattle.words.specs.Blocks.{Pair}
use Rattle.words.proofs.Tests.{differ}
use Rattle.words.proofs.Blocks.{Off}
use Rattle.node.specs.Lists.{insert, remove, has, all_below, different}
use Rattle.node.specs.Slot.{byte, names, slot, entries}
use Rattle.node.specs.View.{Record, View, view, entry, keys, rank, slot_at, link_at, key_at, value_at}
use Rattle.node.proofs.Slots.{names_slot, length_names}
use Rattle.node.proofs.Places.{length_insert, length_remove, map_insert, map_remove, insert_remove}
use Rattle.node.proofs.Every.{below_more, below_insert, below_remove, below_at, below_every, every_has}
use Rattle.node.proofs.Sets.{different_insert, different_remove, has_remove}
use Rattle.node.proofs.Spots.{spot_below, spot_unused}
use Rattle.node.proofs.Views.{view_words, view_names, record_at, map_same}
use Rattle.tree.specs.Halves.{eight}
use Rattle.tree.proofs.Fits.{Named, Says, says}
use Rattle.change.specs.Steps.{entry_pairs, taken_slot, parent_spot}
use Rattle.change.proofs.Pairs.{Within, Between, Stands, Apart}

-- word w is one of node k's
abbrev pub InNode : ℕ → ℕ → Type 0
InNode k = Between (node_at k) (node_at k + node_words)

-- node k of m with some pairs stored: each stands in m', and the node's other words are as they were
pub record Became (m m' : List ℕ) (k : ℕ) (ps : List Pair) : Type 0 where
  pub stands : Stands m' ps
  pub still : (w : ℕ) → InNode k w → Off ps w → at m' w ≡ at m w

-- a node whose words are as they were says the same
pub view_still : (m m' : List ℕ) (k : ℕ) → Named (view m k) → ((w : ℕ) → InNode k w → at m' w ≡ at m w) → view m' k ≡ view m k
view_still m m' k n f =
    sym (view_words m m' k (λ i h. sym (f (node_at k + i) (omega arith, omega arith))) (rw (view_names m k) at n.small))

-- the names of a node that is written
node_says : (m : List ℕ) {k link : ℕ} {rs : List Record} (ns : List ℕ) → names (at m (slot_at k)) ≡ ns → at m (link_at k) ≡ link
    → map (entry m k) ns ≡ rs → all_below entries ns ≡ true → different ns ≡ true → Says (view m) k link rs
unfolding view
node_says m {k} {link} {rs} ns s l e small apart = says view_is (sym (length-map ns (entry m k)) ∙ ap length e) small apart
  where
    view_is : view m k ≡ record { link = link; named = ns; records = rs }
    view_is = rw (s, l, e)

pub slot_says : (m : List ℕ) {k link : ℕ} {rs : List Record} (ns : List ℕ) → at m (slot_at k) ≡ slot ns → at m (link_at k) ≡ link
    → map (entry m k) ns ≡ rs → length ns ≤ entries → all_below entries ns ≡ true → different ns ≡ true → Says (view m) k link rs
slot_says m ns s l e few small apart =
    node_says m ns (rw s (names_slot ns (omega arith) (below_more entries byte ns (lit≤ tt) small))) l e small apart

-- names, each below 7, and all different
pub name_small : (x : ℕ) (ns : List ℕ) → all_below entries ns ≡ true → has x ns ≡ true → x < entries
name_small x ns small h = ltb-true x entries (every_has (λ x. ltb x entries) x ns (rw (below_every entries ns) at small) h)

name_other : (x e : ℕ) (ns : List ℕ) → has e ns ≡ false → has x ns ≡ true → x ≡ e → ⊥
name_other x e ns n h q = differ (sym h ∙ rw q n)

-- something else in place i
insert_removed : {A : Type 0} (i : ℕ) (x : A) (l : List A) → i < length l → insert i x (remove i l) ≡ set l i x
insert_removed i x [] h = absurd (omega arith)
insert_removed zero x (y ∷ l) h = refl
insert_removed (suc i) x (y ∷ l) h = ap (λ (t : List _). y ∷ t) (insert_removed i x l (omega arith))

-- the records of some names with entry e named at place i, where only entry e has changed
pub entered : (m m' : List ℕ) (k i e : ℕ) (ns : List ℕ) (r : Record) → has e ns ≡ false → all_below entries ns ≡ true → entry m' k e ≡ r
    → ((x : ℕ) → x < entries → (x ≡ e → ⊥) → entry m' k x ≡ entry m k x)
    → map (entry m' k) (insert i e ns) ≡ insert i r (map (entry m k) ns)
entered m m' k i e ns r new small here other =
    map_insert (entry m' k) i e ns
    ∙ rw (here, map_same (entry m' k) (entry m k) ns (λ x h. other x (name_small x ns small h) (name_other x e ns new h)))

-- what the pairs leave alone
module _ {m m' : List ℕ} {k : ℕ} {ps : List Pair} (b : Became m m' k ps) where
  pub entry_still : (x : ℕ) → x < entries → Off ps (key_at k x) → Off ps (value_at k x) → entry m' k x ≡ entry m k x
  entry_still x h p q =
      let a : at m' (key_at k x) ≡ at m (key_at k x) = b.still (key_at k x) (omega arith, omega arith) p in
      let c : at m' (value_at k x) ≡ at m (value_at k x) = b.still (value_at k x) (omega arith, omega arith) q in
      rw (a, c)

  pub link_still : Off ps (link_at k) → at m' (link_at k) ≡ (view m k).link
  unfolding view
  link_still = b.still (link_at k) (omega arith, omega arith)

-- a node with room takes a record in: its pairs
abbrev pub taken_pairs : ℕ → View → Record → List Pair
taken_pairs k u r = entry_pairs k (parent_spot u) r ++ ((slot_at k, taken_slot u r.0 (parent_spot u)) ∷ [])

module _ (k : ℕ) (u : View) (r : Record) where
  taken_off : (x : ℕ) → (key_at k (parent_spot u) ≡ x → ⊥) → (value_at k (parent_spot u) ≡ x → ⊥) → (slot_at k ≡ x → ⊥)
      → Off (taken_pairs k u r) x
  taken_off x p q s = ⊎_elim p (⊎_elim q (⊎_elim s absurd))

  pub taken_in : length u.named < entries → Within (InNode k) (taken_pairs k u r)
  taken_in few =
      let l : parent_spot u < entries = spot_below u.named few in
      ((omega arith, omega arith), ((omega arith, omega arith), ((omega arith, omega arith), tt)))

  pub taken_apart : Apart (taken_pairs k u r)
  taken_apart = (⊎_elim (omega arith) (⊎_elim (omega arith) absurd), (⊎_elim (omega arith) absurd, (absurd, tt)))

module _ {m m' : List ℕ} {k : ℕ} (n : Named (view m k)) where
  pub removed_says : (i : ℕ) → i < length (view m k).named → Became m m' k ((slot_at k, slot (remove i (view m k).named)) ∷ [])
      → Says (view m') k (view m k).link (remove i (view m k).records)
  unfolding view
  removed_says i h b =
      let ns : List ℕ = (view m k).named in
      slot_says m' (remove i ns) b.stands.0 (link_still b (⊎_elim (omega arith) absurd))
      (map_remove (entry m' k) i ns ∙ ap (remove i) (map_same (entry m' k) (entry m k) ns (λ x g.
      let l = name_small x ns n.small g in entry_still b x l (⊎_elim (omega arith) absurd) (⊎_elim (omega arith) absurd))))
      (omega (arith, length_remove i ns h, n.few)) (below_remove entries i ns n.small) (different_remove i ns n.apart)

  pub replaced_says : (i key v : ℕ) → i < length (view m k).named → get_or (keys (view m k).records) i 0 ≡ key
      → Became m m' k ((value_at k (get_or (view m k).named i 0), v) ∷ [])
      → Says (view m') k (view m k).link (set (view m k).records i (key, v))
  unfolding view
  replaced_says i key v h g b =
      let ns : List ℕ = (view m k).named in
      let e : ℕ = get_or ns i 0 in
      let l : e < entries = below_at entries i ns n.small h in
      let there : at m' (key_at k e) ≡ key =
      b.still (key_at k e) (omega arith, omega arith) (⊎_elim (omega arith) absurd)
      ∙ ap (λ (r : Record). r.0) (sym (record_at m k i (0, 0) (rw (← length_names (at m (slot_at k))) h)))
      ∙ sym (get_or-map (λ (r : Record). r.0) (view m k).records i (0, 0)) ∙ g in
      let new : has e (remove i ns) ≡ false = has_remove e i ns n.apart h ∙ rw (eq-eqb e e refl) (and-false (has e ns)) in
      node_says m' ns (ap names (b.still (slot_at k) (omega arith, omega arith) (⊎_elim (omega arith) absurd)))
      (link_still b (⊎_elim (omega arith) absurd))
      (ap (map (entry m' k)) (sym (insert_remove i ns 0 h))
      ∙ entered m m' k i e (remove i ns) (key, v) new (below_remove entries i ns n.small) (rw (there, b.stands.0))
      (λ x p q. entry_still b x p (⊎_elim (omega arith) absurd) (⊎_elim (omega arith) absurd))
      ∙ ap (insert i (key, v)) (map_remove (entry m k) i ns)
      ∙ insert_removed i (key, v) (view m k).records (rw (length-map ns (entry m k)) h))
      n.small n.apart

  pub taken_says : (r : Record) → length (view m k).named < entries → Became m m' k (taken_pairs k (view m k) r)
      → Says (view m') k (view m k).link (eight (view m k) r)
  unfolding view
  taken_says r few b =
      let u : View = view m k in
      let ns : List ℕ = u.named in
      let e : ℕ = parent_spot u in
      let i : ℕ = rank u r.0 in
      let l : e < entries = spot_below ns few in
      let new : has e ns ≡ false = spot_unused ns few in
      slot_says m' (insert i e ns) b.stands.1.1.0
      (link_still b (taken_off k u r (link_at k) (omega arith) (omega arith) (omega arith)))
      (entered m m' k i e ns r new n.small (rw (b.stands.0, b.stands.1.0)) (λ x p q. entry_still b x p
      (taken_off k u r (key_at k x) (omega arith) (omega arith) (omega arith))
      (taken_off k u r (value_at k x) (omega arith) (omega arith) (omega arith))))
      (rw length_insert few) (rw (below_insert entries i e ns, lt-ltb e entries l) n.small)
      (rw (different_insert i e ns, new) n.apart)
