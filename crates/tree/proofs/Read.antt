-- A pool rests on the words that reading it looks at, and on no others.
use Prim.Native.Nat.{ℕ, ◌≤◌, ◌<◌}
use mathlib.Core.Path.{◌≡◌, refl, sym, ◌∙◌, ap, fun_ext}
use mathlib.Core.Logic.{inl, inr}
use mathlib.Core.List.{List}
use mathlib.Core.Bool.{true}
use native.Mathlib.Omega.{arith}
use native.Mathlib.Decide.{dec_lt}
use lib.ListN.{length, get_or-eq_default}
use Rattle.words.specs.Pool.{commit_at}
use Rattle.words.specs.Event.{at}
use Rattle.node.specs.Lists.{has}
use Rattle.node.specs.Slot.{names}
use Rattle.node.specs.View.{view, entry, slot_at, link_at, key_at, value_at}
use Rattle.node.proofs.Views.{view_same, view_names}
use Rattle.tree.specs.Header.{used_of}
use Rattle.tree.specs.WellFormed.{WellFormed}
use Rattle.tree.specs.Map.{records_of, map_of, find}
use Rattle.tree.specs.inner.Reads.{Reads, ReadsNode}
use Rattle.tree.proofs.Form.{header_well_formed, header_records}
use Rattle.tree.proofs.Frame.{whole_same, whole_records}

-- two memories of one length, the same in every word that reading the first looks at
module _ (m m' : List ℕ) (size : length m' ≡ length m) (agree : (w : ℕ) → w < length m → Reads m w → at m' w ≡ at m w) where
  word : (w : ℕ) → Reads m w → at m' w ≡ at m w
  word w r = go (dec_lt w (length m))
    where
      go : Dec (w < length m) → at m' w ≡ at m w
      go (yes h) = agree w h r
      go (no h) = get_or-eq_default m' 0 (omega arith) ∙ sym (get_or-eq_default m 0 (omega arith))

  view_read : (k : ℕ) → 1 ≤ k → k ≤ used_of m → view m' k ≡ view m k
  view_read k p q = sym (view_same m m' k (node (slot_at k) (inl refl)) (node (link_at k) (inr (inl refl))) entries_same)
    where
      node : (w : ℕ) → ReadsNode m k w → at m w ≡ at m' w
      node w r = sym (word w (inr (k, p, q, r)))

      entries_same : (i : ℕ) → has i (names (at m (slot_at k))) ≡ true → entry m k i ≡ entry m' k i
      entries_same i n =
          let n' : has i (view m k).named ≡ true = rw (view_names m k) n in
          rw (node (key_at k i) (inr (inr (i, n', inl refl))), node (value_at k i) (inr (inr (i, n', inr refl))))

  module _ (w : WellFormed m) where
    header : (i : ℕ) → i ≤ commit_at → at m' i ≡ at m i
    header i h = word i (inl h)

    pub reads_same : WellFormed m'
    reads_same = header_well_formed m m' size header w (whole_same w.whole view_read)

    pub reads_same_records : records_of m' ≡ records_of m
    reads_same_records = header_records m m' size header ∙ whole_records w.whole view_read

    pub reads_same_map : map_of m' ≡ map_of m
    reads_same_map = fun_ext (λ key. ap (find key) reads_same_records)
