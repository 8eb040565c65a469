-- What may be found after a cut and after any cuts in the recoveries that follow: by induction on the cuts.
use Prim.Native.Nat.{ℕ}
use mathlib.Core.Path.{◌≡◌}
use mathlib.Core.List.{List, []}
use lib.ListN.{take}
use lib.Seq.{take-nil}
use Rattle.words.specs.declared.event.Event.{Event}
use Rattle.words.specs.Loss.{Cut}
use Rattle.words.specs.Cuts.{Found, first, again}
use Rattle.words.proofs.Loss.{cut_settled}

-- a recovery with no events leaves what was found
pub cut_quiet : {m m' : List ℕ} {es : List Event} (k : ℕ) → es ≡ [] → Cut m (take k es) m' → m' ≡ m
cut_quiet k e c = cut_settled [] (λ w. tt) (rw (e, take-nil) at c)

module _ {recovery : List ℕ → List Event} {m : List ℕ} {es : List Event} {n : ℕ} (Q : List ℕ → Type 0)
    (start : (m' : List ℕ) → Cut m (take n es) m' → Q m') where
  -- what a cut leaves, and any cut in a recovery keeps, holds of all that may be found
  pub found_keeps : ((m' m'' : List ℕ) (k : ℕ) → Q m' → Cut m' (take k (recovery m')) m'' → Q m'')
      → {m' : List ℕ} → Found recovery m es n m' → Q m'
  found_keeps keeps (first {m'} c) = start m' c
  found_keeps keeps (again {m'} {m''} k f c) = keeps m' m'' k (found_keeps keeps f) c

  -- nothing needs to be kept where there is nothing to recover
  pub found_quiet : ((m' : List ℕ) → Q m' → recovery m' ≡ []) → {m' : List ℕ} → Found recovery m es n m' → Q m'
  found_quiet quiet = found_keeps (λ m' m'' k q c. rw (cut_quiet k (quiet m' q) c) q)
