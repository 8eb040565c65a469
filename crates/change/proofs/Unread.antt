-- Words that reading a well-formed pool does not look at: the pairs of the log, entries that no slot word names, and nodes above used.
use Prim.Native.Nat.{ℕ, suc, ◌≤◌, ◌<◌}
use mathlib.Core.Path.{◌≡◌, sym, ◌∙◌}
use mathlib.Core.Logic.{◌⊎◌, inl, inr, ⊎_elim}
use mathlib.Core.List.{List}
use mathlib.Core.Bool.{true, false}
use native.Mathlib.Omega.{arith}
use Rattle.words.specs.Pool.{commit_at, nodes_at, node_at}
use Rattle.words.proofs.Tests.{differ}
use Rattle.node.specs.Lists.{has}
use Rattle.node.specs.Slot.{entries}
use Rattle.node.specs.View.{view, key_at, value_at}
use Rattle.tree.specs.Header.{used_of}
use Rattle.tree.specs.WellFormed.{WellFormed}
use Rattle.tree.specs.inner.Reads.{Reads}
use Rattle.tree.proofs.Frame.{whole_named}
use Rattle.change.proofs.Nodes.{name_small}

module _ {m : List ℕ} (w : WellFormed m) where
  -- a named entry is one of 0 to 6
  named_small : (k i : ℕ) → 1 ≤ k → k ≤ used_of m → has i (view m k).named ≡ true → i < entries
  named_small k i p q = name_small i (view m k).named (whole_named w.whole k p q).small

  -- where a word can stand that is read: the header and the commit word, or the nodes 1 to used
  read_place : {x : ℕ} → Reads m x → (x ≤ commit_at) ⊎ ((nodes_at ≤ x) × (x < node_at (suc (used_of m))))
  read_place (inl h) = inl h
  read_place (inr (k, p, q, inl e)) = inr (omega arith, omega arith)
  read_place (inr (k, p, q, inr (inl e))) = inr (omega arith, omega arith)
  read_place (inr (k, p, q, inr (inr (i, n, inl e)))) = let s = named_small k i p q n in inr (omega arith, omega arith)
  read_place (inr (k, p, q, inr (inr (i, n, inr e)))) = let s = named_small k i p q n in inr (omega arith, omega arith)

  pub log_unread : {x : ℕ} → commit_at < x → x < nodes_at → ¬ Reads m x
  log_unread low high r = ⊎_elim (λ h. omega arith) (λ h. omega arith) (read_place r)

  pub high_unread : {x : ℕ} → node_at (suc (used_of m)) ≤ x → ¬ Reads m x
  high_unread high r = ⊎_elim (λ h. omega arith) (λ h. omega arith) (read_place r)

  pub entry_unread : (k i : ℕ) → 1 ≤ k → i < entries → has i (view m k).named ≡ false
      → {x : ℕ} → (x ≡ key_at k i) ⊎ (x ≡ value_at k i) → ¬ Reads m x
  entry_unread k i low small free {x} at_entry_lem r = go at_entry_lem r
    where
      here : (j i' : ℕ) → k ≡ j → i ≡ i' → ¬ (has i' (view m j).named ≡ true)
      here j i' e e' n = differ (sym n ∙ rw (← e, ← e') free)

      go : (x ≡ key_at k i) ⊎ (x ≡ value_at k i) → Reads m x → ⊥
      go (inl o) (inl h) = omega arith
      go (inr o) (inl h) = omega arith
      go (inl o) (inr (j, p, q, inl e)) = let s : k ≡ j = omega arith in omega arith
      go (inr o) (inr (j, p, q, inl e)) = let s : k ≡ j = omega arith in omega arith
      go (inl o) (inr (j, p, q, inr (inl e))) = let s : k ≡ j = omega arith in omega arith
      go (inr o) (inr (j, p, q, inr (inl e))) = let s : k ≡ j = omega arith in omega arith
      go (inl o) (inr (j, p, q, inr (inr (i', n, inl e)))) =
          let l = named_small j i' p q n in let s : k ≡ j = omega arith in here j i' s (omega arith) n
      go (inr o) (inr (j, p, q, inr (inr (i', n, inl e)))) = let l = named_small j i' p q n in let s : k ≡ j = omega arith in omega arith
      go (inl o) (inr (j, p, q, inr (inr (i', n, inr e)))) = let l = named_small j i' p q n in let s : k ≡ j = omega arith in omega arith
      go (inr o) (inr (j, p, q, inr (inr (i', n, inr e)))) =
          let l = named_small j i' p q n in let s : k ≡ j = omega arith in here j i' s (omega arith) n
