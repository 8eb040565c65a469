-- Lists of events: which words they store to, and what carrying them out leaves in a word.
use Prim.Native.Nat.{ℕ, ◌<◌}
use mathlib.Core.Path.{◌≡◌, refl, sym, ◌∙◌}
use mathlib.Core.Logic.{◌⊎◌, inl, inr, ⊎_elim}
use mathlib.Core.List.{List, [], ◌∷◌, ◌++◌}
use lib.ListN.{length, set, take, drop, length-set, take-append-drop}
use lib.Seq.{get_or-set_same, get_or-set_other}
use native.Mathlib.Decide.{ℕ_discrete}
use Rattle.words.specs.declared.event.Event.{Event}
use Rattle.words.specs.declared.event.Event.TheVariants.{Store as store, Flush as flush, Fence as fence}
use Rattle.words.specs.Event.{at, step, run}
use Rattle.words.specs.Loss.{IsStore, Some}

-- the event stores to word w
abbrev pub To : ℕ → Event → Type 0
To w (store a v) = a ≡ w
To w (flush l) = ⊥
To w fence = ⊥

-- the list stores to word w
abbrev pub Stores : ℕ → List Event → Type 0
Stores w es = Some (To w) es

-- some event of a list
module _ (P : Event → Type 0) where
  pub some_append : (s t : List Event) → Some P (s ++ t) → Some P s ⊎ Some P t
  some_append [] t h = inr h
  some_append (e ∷ s) t (inl h) = inl (inl h)
  some_append (e ∷ s) t (inr h) = ⊎_elim (λ x. inl (inr x)) inr (some_append s t h)

  pub some_left : (s t : List Event) → Some P s → Some P (s ++ t)
  some_left [] t h = absurd h
  some_left (e ∷ s) t (inl h) = inl h
  some_left (e ∷ s) t (inr h) = inr (some_left s t h)

  pub some_right : (s t : List Event) → Some P t → Some P (s ++ t)
  some_right [] t h = h
  some_right (e ∷ s) t h = inr (some_right s t h)

  pub some_take : (n : ℕ) (s : List Event) → Some P (take n s) → Some P s
  some_take n s h = rw take-append-drop at (some_left (take n s) (drop n s) h)

-- an event that stores v to w stores to w
store_to : (w v : ℕ) (e : Event) → IsStore w v e → To w e
store_to w v (store a u) h = h.0
store_to w v (flush l) h = h
store_to w v fence h = h

pub stores_of : (w v : ℕ) (s : List Event) → Some (IsStore w v) s → Stores w s
stores_of w v [] h = h
stores_of w v (e ∷ s) (inl h) = inl (store_to w v e h)
stores_of w v (e ∷ s) (inr h) = inr (stores_of w v s h)

to_dec : (w : ℕ) (e : Event) → Dec (To w e)
to_dec w (store a v) = ℕ_discrete a w
to_dec w (flush l) = no (λ x. x)
to_dec w fence = no (λ x. x)

pub stores_dec : (w : ℕ) (s : List Event) → Dec (Stores w s)
stores_dec w [] = no (λ x. x)
stores_dec w (e ∷ s) = go (to_dec w e) (stores_dec w s)
  where
    go : Dec (To w e) → Dec (Stores w s) → Dec (Stores w (e ∷ s))
    go (yes h) d = yes (inl h)
    go (no h) (yes k) = yes (inr k)
    go (no h) (no k) = no (⊎_elim h k)

-- carrying out
pub run_append : (m : List ℕ) (s t : List Event) → run m (s ++ t) ≡ run (run m s) t
run_append m [] t = refl
run_append m (e ∷ s) t = run_append (step m e) s t

pub length_step : (m : List ℕ) (e : Event) → length (step m e) ≡ length m
length_step m (store a v) = length-set m a v
length_step m (flush l) = refl
length_step m fence = refl

pub length_run : (m : List ℕ) (s : List Event) → length (run m s) ≡ length m
length_run m [] = refl
length_run m (e ∷ s) = length_run (step m e) s ∙ length_step m e

step_off : (m : List ℕ) (e : Event) (w : ℕ) → ¬ To w e → at (step m e) w ≡ at m w
step_off m (store a v) w h = get_or-set_other m a w v 0 (λ e. h (sym e))
step_off m (flush l) w h = refl
step_off m fence w h = refl

-- a word never stored to keeps its value
pub run_off : (m : List ℕ) (s : List Event) (w : ℕ) → ¬ Stores w s → at (run m s) w ≡ at m w
run_off m [] w h = refl
run_off m (e ∷ s) w h = run_off (step m e) s w (λ k. h (inr k)) ∙ step_off m e w (λ k. h (inl k))

step_from : (m : List ℕ) (e : Event) (w : ℕ) → w < length m → (at (step m e) w ≡ at m w) ⊎ IsStore w (at (step m e) w) e
step_from m (store a v) w h = go (ℕ_discrete a w)
  where
    go : Dec (a ≡ w) → (at (set m a v) w ≡ at m w) ⊎ ((a ≡ w) × (v ≡ at (set m a v) w))
    go (yes e) = inr (e, rw e (sym (get_or-set_same m w v 0 h)))
    go (no e) = inl (step_off m (store a v) w e)
step_from m (flush l) w h = inl refl
step_from m fence w h = inl refl

-- a word holds what it held, or something that was stored to it
pub run_from : (m : List ℕ) (s : List Event) (w : ℕ) → w < length m
    → (at (run m s) w ≡ at m w) ⊎ Some (IsStore w (at (run m s) w)) s
run_from m [] w h = inl refl
run_from m (e ∷ s) w h = go (run_from (step m e) s w (rw length_step h)) (step_from m e w h)
  where
    v : ℕ
    v = at (run m (e ∷ s)) w

    go : (v ≡ at (step m e) w) ⊎ Some (IsStore w v) s → (at (step m e) w ≡ at m w) ⊎ IsStore w (at (step m e) w) e
        → (v ≡ at m w) ⊎ Some (IsStore w v) (e ∷ s)
    go (inr k) y = inr (inr k)
    go (inl p) (inl q) = inl (p ∙ q)
    go (inl p) (inr q) = inr (inl (rw p q))

step_agree : (m n : List ℕ) (e : Event) (w : ℕ) → w < length m → w < length n → (at m w ≡ at n w) ⊎ To w e
    → at (step m e) w ≡ at (step n e) w
step_agree m n (store a v) w b c (inl k) = go (ℕ_discrete a w)
  where
    go : Dec (a ≡ w) → at (set m a v) w ≡ at (set n a v) w
    go (yes e) = rw e (get_or-set_same m w v 0 b ∙ sym (get_or-set_same n w v 0 c))
    go (no e) = step_off m (store a v) w e ∙ k ∙ sym (step_off n (store a v) w e)
step_agree m n (store a v) w b c (inr e) = rw e (get_or-set_same m w v 0 b ∙ sym (get_or-set_same n w v 0 c))
step_agree m n (flush l) w b c h = ⊎_elim (λ x. x) absurd h
step_agree m n fence w b c h = ⊎_elim (λ x. x) absurd h

-- two memories that agree on w, or a list that stores to w, leave the same in w
pub run_agree : (m n : List ℕ) (s : List Event) (w : ℕ) → w < length m → w < length n → (at m w ≡ at n w) ⊎ Stores w s
    → at (run m s) w ≡ at (run n s) w
run_agree m n [] w b c h = ⊎_elim (λ x. x) absurd h
run_agree m n (e ∷ s) w b c h = run_agree (step m e) (step n e) s w (rw length_step b) (rw length_step c) (go h)
  where
    go : (at m w ≡ at n w) ⊎ Stores w (e ∷ s) → (at (step m e) w ≡ at (step n e) w) ⊎ Stores w s
    go (inl k) = inl (step_agree m n e w b c (inl k))
    go (inr (inl k)) = inl (step_agree m n e w b c (inr k))
    go (inr (inr k)) = inr k
