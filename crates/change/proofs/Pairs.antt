-- Pairs that are stored: where their words lie, that each value stands where no word is stored to twice, and what later events leave.
use Prim.Native.Nat.{ℕ, ◌≤◌, ◌<◌}
use mathlib.Core.Path.{◌≡◌, refl, ◌∙◌}
use mathlib.Core.Logic.{inl, inr, ⊎_elim}
use mathlib.Core.List.{List, [], ◌∷◌, ◌++◌}
use native.Mathlib.Omega.{arith}
use lib.ListN.{length, set, length-set}
use lib.Seq.{get_or-set_same}
use Rattle.words.specs.declared.event.Event.{Event}
use Rattle.words.specs.Event.{at, run}
use Rattle.words.specs.Blocks.{Pair, stores}
use Rattle.words.proofs.Events.{Stores, run_off}
use Rattle.words.proofs.Blocks.{Addressed, Off, stores_stores}
use Rattle.tree.specs.Lists.{Each}

-- each pair's word is such
abbrev pub Within : (ℕ → Type 0) → List Pair → Type 0
Within P ps = Each (λ (p : Pair). P p.0) ps

-- w is one of the words from a up to b
abbrev pub Between : ℕ → ℕ → ℕ → Type 0
Between a b w = (a ≤ w) × (w < b)

-- the pair's word holds its value in m
abbrev pub Stand : List ℕ → Pair → Type 0
Stand m p = at m p.0 ≡ p.1

-- so for each pair
abbrev pub Stands : List ℕ → List Pair → Type 0
Stands m ps = Each (Stand m) ps

-- no two pairs have one word
abbrev pub Apart : List Pair → Type 0
Apart [] = Unit {0}
Apart (p ∷ ps) = Off ps p.0 × Apart ps

module _ (P : ℕ → Type 0) where
  pub within_at : (ps : List Pair) (w : ℕ) → Within P ps → Addressed w ps → P w
  within_at [] w h a = absurd a
  within_at (p ∷ ps) w h (inl e) = rw e at h.0
  within_at (p ∷ ps) w h (inr a) = within_at ps w h.1 a

  pub within_off : (ps : List Pair) (w : ℕ) → Within P ps → ¬ P w → Off ps w
  within_off ps w h n a = n (within_at ps w h a)

  pub within_weaken : {Q : ℕ → Type 0} (ps : List Pair) → ((w : ℕ) → P w → Q w) → Within P ps → Within Q ps
  within_weaken [] f h = tt
  within_weaken (p ∷ ps) f h = (f p.0 h.0, within_weaken ps f h.1)

pub between_more : {a b c d : ℕ} (ps : List Pair) → c ≤ a → b ≤ d → Within (Between a b) ps → Within (Between c d) ps
between_more {a} {b} ps p q = within_weaken (Between a b) ps (λ w h. (omega (arith, h.0), omega (arith, h.1)))

pub off_within : (w : ℕ) (ps : List Pair) → Off ps w → Within (λ x. x ≡ w → ⊥) ps
off_within w [] o = tt
off_within w (p ∷ ps) o = ((λ e. o (inl e)), off_within w ps (λ a. o (inr a)))

pub off_append : (w : ℕ) (a b : List Pair) → Off a w → Off b w → Off (a ++ b) w
off_append w [] b h k = k
off_append w (p ∷ a) b h k = ⊎_elim (λ e. h (inl e)) (off_append w a b (λ x. h (inr x)) k)

pub apart_append : (a b : List Pair) → Apart a → Apart b → ((w : ℕ) → Addressed w a → Off b w) → Apart (a ++ b)
apart_append [] b h k f = k
apart_append (p ∷ a) b h k f = (off_append p.0 a b h.0 (f p.0 (inl refl)), apart_append a b h.1 k (λ w x. f w (inr x)))

-- pairs stored to different words inside the slice all stand
pub stores_stand : (ps : List Pair) (m : List ℕ) → Apart ps → Within (λ w. w < length m) ps → Stands (run m (stores ps)) ps
stores_stand [] m a i = tt
stores_stand (p ∷ ps) m a i =
    let n : List ℕ = set m p.0 p.1 in (
      run_off n (stores ps) p.0 (λ s. a.0 ((stores_stores p.0 ps).0 s)) ∙ get_or-set_same m p.0 p.1 0 i.0,
      stores_stand ps n a.1 (rw length-set i.1),
    )

-- and stand after events that do not store to them
pub stands_after : (ps : List Pair) (m : List ℕ) (es : List Event) → ((w : ℕ) → Addressed w ps → ¬ Stores w es)
    → Stands m ps → Stands (run m es) ps
stands_after [] m es f h = tt
stands_after (p ∷ ps) m es f h =
    (run_off m es p.0 (f p.0 (inl refl)) ∙ h.0, stands_after ps m es (λ w a. f w (inr a)) h.1)
