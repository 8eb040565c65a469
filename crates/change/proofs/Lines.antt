-- The events of words that follow each other, those of a new node and of the log: their stores, and a flush of each line.
use Prim.Native.Nat.{ℕ, suc, ◌+◌, ◌-◌, ◌*◌, ◌/◌, ◌≤◌}
use mathlib.Core.Path.{◌≡◌, refl, ◌∙◌, ap}
use mathlib.Core.List.{List, [], ◌∷◌, ◌++◌}
use mathlib.Core.Bool.{Bool, true, false}
use native.Mathlib.Omega.{arith}
use lib.ListN.{length}
use lib.Dec.{eqb}
use borrow.Author.Tests.{eq-eqb, eqb-true, eqb-false}
use Rattle.words.specs.Lists.{count_from}
use Rattle.words.specs.Pool.{line, log_at, pairs_at}
use Rattle.words.specs.declared.event.Event.TheVariants.{Store as store, Flush as flush}
use Rattle.words.specs.Blocks.{Pair, stores, flushes, lines, stored}
use Rattle.words.proofs.Lists.{length_from}
use Rattle.words.proofs.Blocks.{length_stored}
use Rattle.node.specs.Slot.{slot}
use Rattle.node.specs.View.{Record, slot_at, link_at, key_at, value_at}
use Rattle.change.specs.Steps.{entry_pairs, laid, new_node}
use Rattle.change.specs.Plan.{log_words}

-- the pairs' words follow each other from word w on
abbrev pub From : ℕ → List Pair → Type 0
From w [] = Unit {0}
From w (p ∷ ps) = (p.0 ≡ w) × From (w + 1) ps

-- so their lines are those from the first word's to the last word's, each once
lines_run : (w : ℕ) (p : Pair) (ps : List Pair) → From w (p ∷ ps)
    → lines (p ∷ ps) ≡ count_from (line w) (suc (line (w + length ps) - line w))
unfolding lines
lines_run w p [] f = let e : line (w + 0) - line w ≡ 0 = omega arith in rw (e, f.0)
lines_run w p (q ∷ ps) f = go (lines_run (w + 1) q ps f.1) (eqb (line p.0) (line q.0)) refl
  where
    up : w + 1 + length ps ≡ w + suc (length ps)
    up = omega arith

    go : lines (q ∷ ps) ≡ count_from (line (w + 1)) (suc (line (w + 1 + length ps) - line (w + 1))) → (b : Bool)
        → eqb (line p.0) (line q.0) ≡ b → lines (p ∷ (q ∷ ps)) ≡ count_from (line w) (suc (line (w + suc (length ps)) - line w))
    go r true t =
        let e : line p.0 ≡ line q.0 = eqb-true (line p.0) (line q.0) t in
        let same : line (w + 1) ≡ line w = omega (arith, f.0, f.1.0) in
        rw t (r ∙ rw (same, up))
    go r false t =
        let d = eqb-false (line p.0) (line q.0) t in
        let next : line (w + 1) ≡ line w + 1 = omega (arith, f.0, f.1.0, d) in
        let more : suc (line (w + suc (length ps)) - (line w + 1)) ≡ line (w + suc (length ps)) - line w = omega (arith, next) in
        rw (t, f.0) (ap (λ (ls : List ℕ). line w ∷ ls) (r ∙ rw (up, next) (ap (count_from (line w + 1)) more)))

stored_from : (w n : ℕ) (ps : List Pair) → From w ps → length ps ≡ suc n → length (stored ps) + line w ≡ suc n + suc (line (w + n))
stored_from w n [] f e = absurd (omega arith)
stored_from w n (p ∷ ps) f e =
    let l : length ps ≡ n = omega arith in
    rw (length_stored, lines_run w p ps f, length_from, ← l) (omega arith)

-- a node's words
laid_from : (k i w : ℕ) (rs : List Record) → key_at k i ≡ w → From w (laid k i rs)
laid_from k i w [] e = tt
laid_from k i w (r ∷ rs) e = (e, (omega arith, laid_from k (i + 1) (w + 1 + 1) rs (omega arith)))

pub length_laid : (k i : ℕ) (rs : List Record) → length (laid k i rs) ≡ 2 * length rs
length_laid k i [] = refl
length_laid k i (r ∷ rs) = omega (arith, length_laid k (i + 1) rs)

module _ (k link : ℕ) (rs : List Record) where
  node_from : From (slot_at k) (new_node k link rs)
  node_from = (refl, (refl, laid_from k 0 (slot_at k + 1 + 1) rs (omega arith)))

  pub stored_node : stored (new_node k link rs)
      ≡ stores (new_node k link rs) ++ flushes (count_from (line (slot_at k)) (suc ((1 + 2 * length rs) / 8)))
  unfolding stored
  stored_node =
      let e : line (slot_at k + suc (length (laid k 0 rs))) - line (slot_at k) ≡ (1 + 2 * length rs) / 8 =
      omega (arith, length_laid k 0 rs) in
      rw (lines_run (slot_at k) (slot_at k, slot (count_from 0 (length rs))) ((link_at k, link) ∷ laid k 0 rs) node_from, e)

  -- a new node of n entries: 2 + 2n stores, and one line for up to three entries, two for more
  pub node_events : length (stored (new_node k link rs)) ≡ 3 + 2 * length rs + (1 + 2 * length rs) / 8
  node_events =
      omega (
        arith,
        stored_from (slot_at k) (1 + 2 * length rs) (new_node k link rs) node_from (omega (arith, length_laid k 0 rs)),
      )

-- the log's words
log_from : (w v : ℕ) (ps : List Pair) → w ≡ v → From v (log_words w ps)
unfolding log_words
log_from w v [] e = tt
log_from w v (p ∷ ps) e = (e, (omega arith, log_from (w + 2) (v + 1 + 1) ps (omega arith)))

pub length_log : (w : ℕ) (ps : List Pair) → length (log_words w ps) ≡ 2 * length ps
unfolding log_words
length_log w [] = refl
length_log w (p ∷ ps) = omega (arith, length_log (w + 2) ps)

pub log_lines : (ps : List Pair) → 1 ≤ length ps → lines (log_words pairs_at ps) ≡ count_from (line log_at) (length ps / 4 + 1)
log_lines ps h = go (log_words pairs_at ps) (log_from pairs_at pairs_at ps refl) (length_log pairs_at ps)
  where
    go : (qs : List Pair) → From pairs_at qs → length qs ≡ 2 * length ps → lines qs ≡ count_from (line log_at) (length ps / 4 + 1)
    go [] f e = absurd (omega arith)
    go (q ∷ qs) f e =
        let n : suc (line (pairs_at + length qs) - line pairs_at) ≡ length ps / 4 + 1 = omega arith in
        lines_run pairs_at q qs f ∙ ap (count_from 1) n

-- the log of p pairs, at least one: 2p stores, and the lines that hold a pair, 1 + ⌊p / 4⌋
pub log_stored : (ps : List Pair) → 1 ≤ length ps → length (stored (log_words pairs_at ps)) ≡ 2 * length ps + 1 + length ps / 4
log_stored ps h =
    rw (length_stored, log_lines ps h, length_from) (omega (arith, length_log pairs_at ps))

-- the two words of an entry lie in one line
pub entry_stored : (k i : ℕ) (r : Record)
    → stored (entry_pairs k i r) ≡ store (key_at k i) r.0 ∷ store (value_at k i) r.1 ∷ flush (line (value_at k i)) ∷ []
unfolding stored lines
entry_stored k i r =
    let same : line (key_at k i) ≡ line (value_at k i) = omega arith in
    rw (eq-eqb (line (key_at k i)) (line (value_at k i)) same)
