-- The log: the turns of the loops that write it and store its pairs, and (b) to (e) together.
use Prim.Native.Nat.{ℕ, zero, suc, ◌+◌, ◌-◌, ◌*◌, ◌/◌, ◌≤◌, ◌<◌}
use mathlib.Core.Path.{◌≡◌, ◌∙◌}
use mathlib.Core.List.{List, [], ◌∷◌, ◌++◌}
use native.Mathlib.Numerals.{add-one}
use native.Mathlib.Omega.{arith}
use lib.ListN.{length, get_or, drop, drop_of_length-le}
use lib.Seq.{drop-cons}
use Rattle.words.specs.Lists.{count_from}
use Rattle.words.specs.Pool.{line, log_at, commit_at, pairs_at}
use Rattle.words.specs.declared.event.Event.TheVariants.{Store as store, Flush as flush, Fence as fence}
use Rattle.words.specs.Event.{at, top_byte}
use Rattle.words.specs.Blocks.{Pair, once, stores, flushes, stored, replay}
use Rattle.words.specs.declared.write.EventList.{EventList}
use Rattle.words.specs.Written.{Wrote}
use Rattle.words.proofs.Turns.{turn, over}
use Rattle.words.proofs.Written.{wrote_append}
use Rattle.words.proofs.Lists.{length_from}
use Rattle.words.proofs.Blocks.{length_stores, length_flushes}
use Rattle.change.specs.Plan.{log_words, log_written, log_replayed, log_finished, log_events}
use Rattle.change.proofs.Lines.{length_log, log_lines}
use Rattle.split.specs.inner.Pairs.{pairs_of, Near}
use Rattle.split.proofs.Notes.{length_pairs}

-- the address of pair i
pub near_at : (qs : List (List ℕ)) (i : ℕ) → i < length qs → Near (pairs_of qs) → at (get_or qs i []) 0 < top_byte
near_at [] i h n = absurd (omega arith)
near_at (q ∷ qs) zero h n = n.0
near_at (q ∷ qs) (suc i) h n = near_at qs i (omega arith) n.1

-- a turn: the events of pair i come before those of the pairs after it
module _ (qs : List (List ℕ)) (i : ℕ) (h : i < length qs) where
  -- the pairs from pair i on
  abbrev q : List ℕ
  q = get_or qs i []

  first : drop i qs ≡ q ∷ drop (i + 1) qs
  first = drop-cons qs i [] h ∙ rw (add-one i)

  pub log_turn : (w : ℕ) → stores (log_words w (pairs_of (drop i qs)))
      ≡ (store w (at q 0) ∷ store (w + 1) (at q 1) ∷ []) ++ stores (log_words (w + 2) (pairs_of (drop (i + 1) qs)))
  unfolding log_words
  log_turn w = rw first

  pub replay_turn : replay (pairs_of (drop i qs))
      ≡ (store (at q 0) (at q 1) ∷ flush (line (at q 0)) ∷ []) ++ replay (pairs_of (drop (i + 1) qs))
  unfolding replay
  replay_turn = rw first

-- a turn of the flushes
pub flush_turn : (n i : ℕ) → i < n → flushes (count_from i (n - i)) ≡ (flush i ∷ []) ++ flushes (count_from (i + 1) (n - (i + 1)))
flush_turn n i h = rw (turn n i h)

-- the end of each
module _ (qs : List (List ℕ)) (i : ℕ) (h : length qs ≤ i) where
  pub log_end : (w : ℕ) → stores (log_words w (pairs_of (drop i qs))) ≡ []
  unfolding log_words
  log_end w = rw (drop_of_length-le qs h)

  pub replay_end : replay (pairs_of (drop i qs)) ≡ []
  unfolding replay
  replay_end = rw (drop_of_length-le qs h)

pub flush_end : (v n i : ℕ) → n ≤ i → flushes (count_from v (n - i)) ≡ []
flush_end v n i h = rw (over n i h)

-- how many events there are after each
module _ (qs : List (List ℕ)) {l l₁ : EventList} (a : Wrote (stores (log_words pairs_at (pairs_of qs))) l l₁) where
  pub stored_events : l₁.events ≡ l.events + 2 * length qs
  stored_events =
      let ps = pairs_of qs in
      omega (arith, a.next, length_stores (log_words pairs_at ps), length_log pairs_at ps, length_pairs qs)

  pub flushed_events : (n : ℕ) {l₂ : EventList} → Wrote (flushes (count_from (line log_at) n)) l₁ l₂
      → l₂.events ≡ l.events + 2 * length qs + n
  flushed_events n b =
      omega (arith, stored_events, b.next, length_flushes (count_from (line log_at) n), length_from (line log_at) n)

module _ (ps : List Pair) where
  pub finished : {l l₁ l₂ l₃ : EventList} → Wrote (replay ps) l l₁ → Wrote (fence ∷ []) l₁ l₂ → Wrote (once commit_at 0) l₂ l₃
      → Wrote (log_finished ps) l l₃
  unfolding log_finished log_replayed
  finished a b d = wrote_append (wrote_append a b) d

  pub logged : {c : ℕ} {l l₁ l₂ l₃ l₄ l₅ : EventList} → c ≡ length ps → 1 ≤ c
      → Wrote (stores (log_words pairs_at ps)) l l₁ → Wrote (flushes (count_from (line log_at) (c / 4 + 1))) l₁ l₂
      → Wrote (fence ∷ []) l₂ l₃ → Wrote (once commit_at c) l₃ l₄ → Wrote (log_finished ps) l₄ l₅ → Wrote (log_events ps) l l₅
  unfolding log_events log_written stored
  logged e h a b d f t =
      rw (log_lines ps (rw (← e) h), ← e) (wrote_append (wrote_append (wrote_append a b) d) (wrote_append f t))
