-- What the two nodes of a split say once their words were stored: the one that keeps the lower four, and the new one.
use Prim.Native.Nat.{ℕ, zero, suc, ◌+◌, ◌-◌, ◌≤◌, ◌<◌}
use mathlib.Core.Path.{◌≡◌, refl, sym, ◌∙◌, ap}
use mathlib.Core.Logic.{⊎_elim}
use mathlib.Core.List.{List, [], ◌∷◌, ◌++◌, map}
use mathlib.Core.Bool.{Bool, true, false}
use native.Mathlib.Omega.{arith}
use lib.ListN.{length, take, drop, length-map}
use lib.Seq.{length-take-le, take-append-le, take-take}
use lib.Dec.{ltb}
use borrow.Author.Tests.{lt-ltb, ltb-true, ltb-false}
use Rattle.std.specs.Prelude.{if◌then◌else◌}
use Rattle.words.specs.Lists.{count_from}
use Rattle.words.specs.Event.{at}
use Rattle.words.specs.Blocks.{Pair}
use Rattle.words.proofs.Blocks.{Off}
use Rattle.words.proofs.Lists.{length_from}
use Rattle.node.specs.Lists.{insert, has, all_below, different}
use Rattle.node.specs.Slot.{entries, slot}
use Rattle.node.specs.View.{Record, View, view, entry, keys, rank, slot_at, link_at, key_at, value_at}
use Rattle.node.proofs.Digits.{bytes_take}
use Rattle.node.proofs.Slots.{rising_bytes}
use Rattle.node.proofs.Places.{length_insert, map_take}
use Rattle.node.proofs.Every.{below_insert, below_take}
use Rattle.node.proofs.Sets.{different_insert, different_take}
use Rattle.node.proofs.Ranks.{below_length}
use Rattle.node.proofs.Spots.{spot_below, spot_unused}
use Rattle.node.proofs.Views.{map_same}
use Rattle.tree.specs.Halves.{lower, lower_four}
use Rattle.tree.proofs.Lists.{each_right}
use Rattle.tree.proofs.Fits.{Named, Says}
use Rattle.change.specs.Steps.{entry_pairs, laid, new_node, staying_spot, lower_slot, staying_pairs}
use Rattle.change.proofs.Pairs.{Stand, Stands, off_append}
use Rattle.change.proofs.Nodes.{Became, entered, entry_still, link_still, name_small, slot_says}

-- the first of a list with something put in: it is among them, or it is not
take_within : {A : Type 0} (i n : ℕ) (x : A) (l : List A) → i ≤ n → take (suc n) (insert i x l) ≡ insert i x (take n l)
take_within zero n x l h = refl
take_within (suc i) zero x l h = absurd (omega arith)
take_within (suc i) (suc n) x [] h = refl
take_within (suc i) (suc n) x (y ∷ l) h = ap (λ (t : List _). y ∷ t) (take_within i n x l (omega arith))

take_before : {A : Type 0} (n i : ℕ) (x : A) (l : List A) → n ≤ i → i ≤ length l → take n (insert i x l) ≡ take n l
take_before n i x l h g = take-append-le n (take i l) (x ∷ drop i l) (rw length-take-le h) ∙ take-take n i l h

-- the node that keeps the lower four of its eight records
module _ (m m' : List ℕ) (k : ℕ) (n : Named (view m k)) (r : Record) (full : length (view m k).named ≡ entries) where
  abbrev u : View
  u = view m k

  abbrev ns : List ℕ
  ns = u.named

  abbrev e : ℕ
  e = staying_spot u

  abbrev i : ℕ
  i = rank u r.0

  -- so many names are kept where the new record stays
  abbrev kept : ℕ
  kept = lower - 1

  kept_length : length (take kept ns) ≡ kept
  kept_length = length-take-le kept ns (omega arith)

  e_small : staying_spot (view m k) < entries
  e_small = spot_below (take kept ns) (omega (arith, kept_length))

  e_new : has (staying_spot (view m k)) (take kept (view m k).named) ≡ false
  e_new = spot_unused (take kept ns) (omega (arith, kept_length))

  kept_small : all_below entries (take kept (view m k).named) ≡ true
  kept_small = below_take entries kept ns n.small

  -- with pairs ws that are for word 1 alone, which comes to be the link
  module _ (ws : List Pair) (link : ℕ) (other : (w : ℕ) → (w ≡ link_at k → ⊥) → Off ws w) (l : at m' (link_at k) ≡ link) where
    abbrev last : Pair
    last = (slot_at k, lower_slot u r.0)

    off : (w : ℕ) → (w ≡ link_at k → ⊥) → (slot_at k ≡ w → ⊥) → Off (ws ++ (last ∷ [])) w
    off w p q = off_append w ws (last ∷ []) (other w p) (⊎_elim q absurd)

    -- the new record is one of the lower four
    stays_in : i < lower → Became m m' k (entry_pairs k e r ++ (ws ++ (last ∷ []))) → Says (view m') k link (lower_four u r)
    unfolding view
    stays_in h b =
        let firsts : take lower (insert i e ns) ≡ insert i e (take kept ns) = take_within i kept e ns (omega arith) in
        slot_says m' (insert i e (take kept ns)) ((each_right (Stand m') ws (last ∷ []) b.stands.1.1).0 ∙ ap slot firsts) l
        (entered m m' k i e (take kept ns) r e_new kept_small (rw (b.stands.0, b.stands.1.0))
        (λ x p q. entry_still b x p (⊎_elim (omega arith) (⊎_elim (omega arith) (off (key_at k x) (omega arith) (omega arith))))
        (⊎_elim (omega arith) (⊎_elim (omega arith) (off (value_at k x) (omega arith) (omega arith)))))
        ∙ ap (insert i r) (map_take (entry m k) kept ns) ∙ sym (take_within i kept r u.records (omega arith)))
        (rw length_insert (omega (arith, kept_length))) (rw (below_insert entries i e (take kept ns), lt-ltb e entries e_small) kept_small)
        (rw (different_insert i e (take kept ns), e_new) (different_take kept ns n.apart))

    -- it goes over
    stays_out : lower ≤ i → Became m m' k (ws ++ (last ∷ [])) → Says (view m') k link (lower_four u r)
    unfolding view
    stays_out h b =
        let most : i ≤ length u.records =
        omega (arith, below_length r.0 (keys u.records), length-map u.records (λ (q : Record). q.0)) in
        let firsts : take lower (insert i e ns) ≡ take lower ns = take_before lower i e ns h (omega (arith, length-map ns (entry m k))) in
        let small = below_take entries lower ns n.small in
        slot_says m' (take lower ns) ((each_right (Stand m') ws (last ∷ []) b.stands).0 ∙ ap slot firsts) l
        (map_same (entry m' k) (entry m k) (take lower ns) (λ x g. let q = name_small x (take lower ns) small g in
        entry_still b x q (off (key_at k x) (omega arith) (omega arith)) (off (value_at k x) (omega arith) (omega arith)))
        ∙ map_take (entry m k) lower ns ∙ sym (take_before lower i r u.records h most))
        (rw (length-take-le lower ns (omega arith)) (omega arith)) small (different_take lower ns n.apart)

    stays : Became m m' k (staying_pairs k u r ws) → Says (view m') k link (lower_four u r)
    unfolding staying_pairs
    stays b = go (ltb i lower) refl
      where
        go : (t : Bool) → ltb i lower ≡ t → Says (view m') k link (lower_four u r)
        go true t = stays_in (ltb-true i lower t) (rw t at b)
        go false t = stays_out (ltb-false i lower t) (rw t at b)

  -- a leaf, whose link is stored too, and an inner node, whose leftmost child stays
  pub leaf_stays : (link : ℕ) → Became m m' k (staying_pairs k u r ((link_at k, link) ∷ []))
      → Says (view m') k link (lower_four u r)
  unfolding staying_pairs
  leaf_stays link b =
      stays ((link_at k, link) ∷ []) link (λ w p. ⊎_elim (λ q. p (sym q)) absurd)
      (each_right (Stand m') (if ltb i lower then entry_pairs k e r else []) _ b.stands).0 b

  pub inner_stays : Became m m' k (staying_pairs k u r []) → Says (view m') k u.link (lower_four u r)
  unfolding staying_pairs
  inner_stays b = stays [] u.link (λ w p. absurd) (link_still b (go (ltb i lower) refl)) b
    where
      go : (t : Bool) → ltb i lower ≡ t → Off (staying_pairs k u r []) (link_at k)
      go true t = rw t (⊎_elim (omega arith) (⊎_elim (omega arith) (⊎_elim (omega arith) absurd)))
      go false t = rw t (⊎_elim (omega arith) absurd)

-- the names of a new node
first_names : (c : ℕ) → c ≤ entries → count_from 0 c ≡ take c (count_from 0 entries)
first_names c h =
    sym (rising_bytes c h) ∙ bytes_take c entries 0x0006_0504_0302_0100 h ∙ ap (take c) (rising_bytes entries (omega arith))

laid_records : (m : List ℕ) (k i : ℕ) (rs : List Record) → Stands m (laid k i rs) → map (entry m k) (count_from i (length rs)) ≡ rs
laid_records m k i [] s = refl
laid_records m k i (r ∷ rs) s = rw (s.0, s.1.0, laid_records m k (i + 1) rs s.1.1)

pub new_says : (m : List ℕ) (k link : ℕ) (rs : List Record) → length rs ≤ entries → Stands m (new_node k link rs) → Says (view m) k link rs
new_says m k link rs h s =
    let f : count_from 0 (length rs) ≡ take (length rs) (count_from 0 entries) = first_names (length rs) h in
    slot_says m (count_from 0 (length rs)) s.0 s.1.0 (laid_records m k 0 rs s.1.1) (rw length_from h)
    (rw f (below_take entries (length rs) (count_from 0 entries) (unfold all_below in refl)))
    (rw f (different_take (length rs) (count_from 0 entries) (unfold different has in refl)))
