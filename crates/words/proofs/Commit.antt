-- One store commits: after events that store to no word that matters, one store makes the change, and a cut leaves it undone or done.
use Prim.Native.Nat.{ℕ, zero, suc, ◌+◌, ◌-◌, ◌<◌, ◌≤◌}
use mathlib.Core.Path.{◌≡◌, refl, sym, ◌∙◌, ap}
use mathlib.Core.Logic.{◌⊎◌, inl, inr, ⊎_elim}
use mathlib.Core.List.{List, [], ◌∷◌, ◌++◌}
use lib.ListN.{length, take}
use lib.Seq.{get_or-set_same, take_all, take-nil, take-append-le, take-append-add}
use native.Mathlib.Omega.{arith}
use Rattle.words.specs.declared.event.Event.{Event}
use Rattle.words.specs.declared.event.Event.TheVariants.{Fence as fence}
use Rattle.words.specs.Event.{at, run}
use Rattle.words.specs.Blocks.{once}
use Rattle.words.specs.Loss.{IsStore, IsFence, Some, Safe, Cut}
use Rattle.words.specs.Cuts.{Found, first}
use Rattle.words.proofs.Events.{To, Stores, some_append, some_take, run_append, length_run}
use Rattle.words.proofs.Agree.{Agree, agree_sym, agree_trans, agree_eq, agree_weaken, agree_but, agree_off}
use Rattle.words.proofs.Parted.{cut_live}
use Rattle.words.proofs.Loss.{Settled, settled_append, settled_safe, may_hold_from}
use Rattle.words.proofs.Loss.{cut_off_take, cut_unfenced, cut_settled, cut_restart, cut_append}
use Rattle.words.proofs.Blocks.{stores_once, Flushed, settled_fence, settled_once}
use Rattle.words.proofs.Found.{found_quiet}

-- one word stored, flushed and fenced: cut, all is as before or as after
pub cut_once : {m m' : List ℕ} (w v n : ℕ) → w < length m → Cut m (take n (once w v)) m' → (m' ≡ m) ⊎ (m' ≡ run m (once w v))
cut_once {m} {m'} w v n b c = go (may_hold_from b (c.word w b))
  where
    off : Agree (λ x. ¬ (w ≡ x)) m' m
    off = agree_weaken (λ x k s. k ((stores_once x w v).0 s)) (cut_off_take n (once w v) c)

    still : Agree (λ x. ¬ (w ≡ x)) m (run m (once w v))
    still = agree_weaken (λ x k s. k ((stores_once x w v).0 s)) (agree_sym (agree_off m (once w v)))

    arrived : Some (IsStore w (at m' w)) (once w v) → at m' w ≡ at (run m (once w v)) w
    arrived (inl e) = sym e.1 ∙ sym (get_or-set_same m w v 0 b)
    arrived (inr (inl e)) = absurd e
    arrived (inr (inr (inl e))) = absurd e
    arrived (inr (inr (inr e))) = absurd e

    go : (at m' w ≡ at m w) ⊎ Some (IsStore w (at m' w)) (take n (once w v)) → (m' ≡ m) ⊎ (m' ≡ run m (once w v))
    go (inl e) = inl (agree_but off e)
    go (inr s) = inr (agree_but (agree_trans off still) (arrived (some_take (IsStore w (at m' w)) n (once w v) s)))

-- events that settle every word and store to no word of Seen
pub record Prepares (Seen : ℕ → Type 0) (prep : List Event) : Type 0 where
  pub settled : (x : ℕ) → Settled x prep
  pub unseen : (x : ℕ) → Stores x prep → ¬ Seen x

pub prepares_none : {Seen : ℕ → Type 0} → Prepares Seen []
prepares_none = record { settled = λ x. tt; unseen = λ x s q. s }

-- so do events that flush what they store to, with a fence
pub prepares_fence : {Seen : ℕ → Type 0} (s : List Event) → ((x : ℕ) → Flushed x s) → ((x : ℕ) → Stores x s → ¬ Seen x)
    → Prepares Seen (s ++ fence ∷ [])
prepares_fence {Seen} s f u = record { settled = λ x. settled_fence x s (f x); unseen = unseen }
  where
    unseen : (x : ℕ) → Stores x (s ++ fence ∷ []) → ¬ Seen x
    unseen x h = ⊎_elim (u x) (⊎_elim absurd absurd) (some_append (To x) s (fence ∷ []) h)

-- what preparing leaves, whole or cut: the words of Seen as they were
module _ {Seen : ℕ → Type 0} {prep : List Event} {m : List ℕ} (p : Prepares Seen prep) where
  pub prepared_agrees : Agree Seen (run m prep) m
  prepared_agrees = agree_weaken (λ x q s. p.unseen x s q) (agree_off m prep)

  pub prepared_early : {m' : List ℕ} (t : List Event) (n : ℕ) → n ≤ length prep → Cut m (take n (prep ++ t)) m' → Agree Seen m' m
  prepared_early t n b c = agree_weaken (λ x q s. p.unseen x s q) (cut_off_take n prep (rw take-append-le at c))

  pub prepared_cut : {m' : List ℕ} (w v n : ℕ) → w < length m → Cut m (take n (prep ++ once w v)) m'
      → Agree Seen m' m ⊎ (m' ≡ run m (prep ++ once w v))
  prepared_cut {m'} w v n b c =
      ⊎_elim (λ h. inl (prepared_early (once w v) n h.0 c)) (λ h. one (cut_once w v (n - length prep) (rw length_run b) h.1))
      (cut_append prep (once w v) n p.settled c)
    where
      one : (m' ≡ run m prep) ⊎ (m' ≡ run (run m prep) (once w v)) → Agree Seen m' m ⊎ (m' ≡ run m (prep ++ once w v))
      one (inl e) = inl (agree_trans (agree_eq e) prepared_agrees)
      one (inr e) = inr (rw run_append e)

-- the plan `prep ++ once w v` on m, where words of Seen matter before: nothing is to be recovered in a memory that agrees with m on
-- them, nor in the memory after
pub record Commits (recovery : List ℕ → List Event) (Seen : ℕ → Type 0) (m : List ℕ) (prep : List Event) (w v : ℕ) : Type 0 where
  pub prepares : Prepares Seen prep
  pub inside : w < length m
  pub quiet_before : (m' : List ℕ) → Agree Seen m' m → recovery m' ≡ []
  pub quiet_after : recovery (run m (prep ++ once w v)) ≡ []

-- from its first event on the store of `once` is live, and up to its second no fence has come
once_live : (m : List ℕ) (w v k : ℕ) → 1 ≤ k → run m (take k (once w v)) ≡ run m (once w v)
once_live m w v zero h = absurd (omega arith)
once_live m w v (suc zero) h = refl
once_live m w v (suc (suc zero)) h = refl
once_live m w v (suc (suc (suc k))) h = ap (run (run m (once w v))) (take-nil k)

once_unfenced : (w v k : ℕ) → k ≤ 2 → ¬ Some IsFence (take k (once w v))
once_unfenced w v zero h f = f
once_unfenced w v (suc zero) h f = ⊎_elim absurd absurd f
once_unfenced w v (suc (suc zero)) h f = ⊎_elim absurd (⊎_elim absurd absurd) f
once_unfenced w v (suc (suc (suc k))) h f = omega arith

module _ {recovery : List ℕ → List Event} {Seen : ℕ → Type 0} {m : List ℕ} {prep : List Event} {w v : ℕ}
    (c : Commits recovery Seen m prep w v) where
  commit_settled : (x : ℕ) → Settled x (prep ++ once w v)
  commit_settled x = settled_append x prep (once w v) (c.prepares.settled x) (settled_once x w v)

  -- cut anywhere, and its recoveries too: what mattered before is as it was, or all is as after
  pub commit_found : {n : ℕ} {m' : List ℕ} → Found recovery m (prep ++ once w v) n m'
      → Agree Seen m' m ⊎ (m' ≡ run m (prep ++ once w v))
  commit_found {n} =
      found_quiet (λ m'. Agree Seen m' m ⊎ (m' ≡ run m (prep ++ once w v))) (λ m' k. prepared_cut c.prepares w v n c.inside k)
      (λ m'. ⊎_elim (c.quiet_before m') (λ e. rw e c.quiet_after))

  pub commit_early : {n : ℕ} {m' : List ℕ} → n ≤ length prep → Found recovery m (prep ++ once w v) n m' → Agree Seen m' m
  commit_early {n} h =
      found_quiet (λ m'. Agree Seen m' m) (λ m' k. prepared_early c.prepares (once w v) n h k) c.quiet_before

  pub commit_done : {n : ℕ} {m' : List ℕ} → length (prep ++ once w v) ≤ n → Found recovery m (prep ++ once w v) n m'
      → m' ≡ run m (prep ++ once w v)
  commit_done {n} h =
      found_quiet (λ m'. m' ≡ run m (prep ++ once w v))
      (λ m' k. cut_settled (prep ++ once w v) commit_settled (rw take_all at k)) (λ m' e. rw e c.quiet_after)

  pub commit_safe : (x : ℕ) → Safe m (prep ++ once w v) x
  commit_safe x = settled_safe m (prep ++ once w v) x (commit_settled x)

  -- after the store, and after its flush, both may be found
  pub commit_either : (k : ℕ) → 1 ≤ k → k ≤ 2
      → Found recovery m (prep ++ once w v) (length prep + k) (run m prep)
      × Found recovery m (prep ++ once w v) (length prep + k) (run m (prep ++ once w v))
  commit_either k low high = (first old, first new)
    where
      lost : Cut (run m prep) (take k (once w v)) (run m prep)
      lost = cut_unfenced (once_unfenced w v k high) refl (λ x b. inl refl)

      old : Cut m (take (length prep + k) (prep ++ once w v)) (run m prep)
      old = rw take-append-add ((cut_restart prep (take k (once w v)) c.prepares.settled).1 lost)

      live : run m (prep ++ take k (once w v)) ≡ run m (prep ++ once w v)
      live = simp run_append (once_live (run m prep) w v k low)

      new : Cut m (take (length prep + k) (prep ++ once w v)) (run m (prep ++ once w v))
      new = rw (take-append-add, ← live) (cut_live m (prep ++ take k (once w v)))
