-- New nodes, from what the calls that write their words have written.
use Prim.Native.Nat.{ℕ, ◌+◌, ◌-◌, ◌*◌, ◌/◌, ◌≤◌, ◌<◌}
use mathlib.Core.Path.{◌≡◌, ◌∙◌}
use mathlib.Core.List.{List, [], ◌∷◌, ◌++◌, append_assoc}
use native.Mathlib.Numerals.{add-one}
use native.Mathlib.Omega.{arith}
use lib.ListN.{length, get_or, drop, length-drop, drop_of_length-le}
use lib.Seq.{drop-cons}
use Rattle.words.specs.Lists.{count_from}
use Rattle.words.specs.Pool.{line}
use Rattle.words.specs.declared.event.Event.TheVariants.{Flush as flush}
use Rattle.words.specs.Blocks.{stores, stored}
use Rattle.words.specs.declared.write.EventList.{EventList}
use Rattle.words.specs.Written.{Wrote}
use Rattle.words.proofs.Written.{wrote_append}
use Rattle.words.proofs.Blocks.{length_stores}
use Rattle.node.specs.Slot.{slot}
use Rattle.node.specs.View.{Record, slot_at, link_at}
use Rattle.change.specs.Steps.{entry_pairs, laid, new_node}
use Rattle.change.proofs.Lines.{length_laid, stored_node}

-- eight records, of which those from a place on go over
module _ (es : List Record) (long : length es ≡ 8) where
  pub upper_turn : (new from i : ℕ) → i < 8 → from ≤ i → {r : Record} → r ≡ get_or es i (0, 0)
      → stores (laid new (i - from) (drop i es))
      ≡ stores (entry_pairs new (i - from) r) ++ stores (laid new (i + 1 - from) (drop (i + 1) es))
  upper_turn new from i h low e =
      let up : i + 1 - from ≡ i - from + 1 = omega arith in
      let there : i < length es = omega arith in
      rw (up, add-one i, e, drop-cons es i (0, 0) there)

  pub upper_end : (new j i : ℕ) → 8 ≤ i → stores (laid new j (drop i es)) ≡ []
  upper_end new j i h =
      let over : length es ≤ i = omega arith in
      rw (drop_of_length-le es over)

  pub upper_length : (new from : ℕ) → length (stores (laid new 0 (drop from es))) ≡ 2 * (8 - from)
  upper_length new from = length_stores (laid new 0 (drop from es)) ∙ length_laid new 0 (drop from es) ∙ rw (length-drop from es, long)

  pub node_written : (new link from : ℕ) {c : ℕ} {l l₁ l₂ l₃ : EventList} → c ≡ 8 - from
      → Wrote (stores ((slot_at new, slot (count_from 0 c)) ∷ (link_at new, link) ∷ [])) l l₁
      → Wrote (stores (laid new 0 (drop from es))) l₁ l₂ → Wrote (flush (line (slot_at new)) ∷ []) l₂ l₃
      → Wrote (stores (new_node new link (drop from es)) ++ (flush (line (slot_at new)) ∷ [])) l l₃
  node_written new link from e a b d = rw (length-drop from es, long, ← e) (wrote_append a (wrote_append b d))

-- the entries of a new node stand in its first line, or in both
module _ (new link : ℕ) (rs : List Record) {l l₁ : EventList}
    (a : Wrote (stores (new_node new link rs) ++ (flush (line (slot_at new)) ∷ [])) l l₁) where
  pub one_line : length rs ≤ 3 → Wrote (stored (new_node new link rs)) l l₁
  one_line few =
      let e : (1 + 2 * length rs) / 8 ≡ 0 = omega arith in
      rw (stored_node new link rs, e) a

  pub two_lines : length rs ≡ 4 → {l₂ : EventList} → Wrote (flush (line (slot_at new) + 1) ∷ []) l₁ l₂
      → Wrote (stored (new_node new link rs)) l l₂
  two_lines four b =
      let e : (1 + 2 * length rs) / 8 ≡ 1 = omega arith in
      rw (stored_node new link rs, e) (rw append_assoc at (wrote_append a b))
