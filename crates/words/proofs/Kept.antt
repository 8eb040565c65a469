-- A flush "that a later fence followed", and how many events stand up to the last one: a count that computes.
use Prim.Native.Nat.{ℕ, zero, suc}
use mathlib.Core.Path.{◌≡◌, refl}
use mathlib.Core.Logic.{◌⊎◌, inl, inr, ⊎_elim}
use mathlib.Core.Bool.{Bool, true, false, ◌&&◌}
use mathlib.Core.List.{List, [], ◌∷◌, ◌++◌}
use lib.Dec.{eqb}
use Rattle.words.specs.declared.event.Event.{Event}
use Rattle.words.specs.declared.event.Event.TheVariants.{Store as store, Flush as flush, Fence as fence}
use Rattle.words.specs.Loss.{IsFlush, IsFence, Some, Kept}
use Rattle.words.proofs.Tests.{Tells, is, isnt, tells_equal, tells_and, tells_right}
use Rattle.words.proofs.Events.{some_left}

pub kept_right : (l : ℕ) (s t : List Event) → Kept l t → Kept l (s ++ t)
kept_right l [] t h = h
kept_right l (e ∷ s) t h = inr (kept_right l s t h)

pub kept_left : (l : ℕ) (s t : List Event) → Kept l s → Kept l (s ++ t)
kept_left l [] t h = absurd h
kept_left l (e ∷ s) t (inl h) = inl (h.0, some_left IsFence s t h.1)
kept_left l (e ∷ s) t (inr h) = inr (kept_left l s t h)

pub kept_fenced : (l : ℕ) (s : List Event) → Kept l s → Some IsFence s
kept_fenced l [] h = h
kept_fenced l (e ∷ s) (inl h) = inr h.1
kept_fenced l (e ∷ s) (inr h) = inr (kept_fenced l s h)

abbrev pub fenced : List Event → Bool
fenced [] = false
fenced (store a v ∷ es) = fenced es
fenced (flush l ∷ es) = fenced es
fenced (fence ∷ es) = true

fenced_tells : (es : List Event) → Tells (Some IsFence es) (fenced es)
fenced_tells [] = isnt (λ x. x)
fenced_tells (store a v ∷ es) = tells_right (λ x. x) (fenced_tells es)
fenced_tells (flush l ∷ es) = tells_right (λ x. x) (fenced_tells es)
fenced_tells (fence ∷ es) = is (inl tt)

abbrev pub flushes_line : ℕ → Event → Bool
flushes_line l (store a v) = false
flushes_line l (flush k) = eqb k l
flushes_line l fence = false

flushes_line_tells : (l : ℕ) (e : Event) → Tells (IsFlush l e) (flushes_line l e)
flushes_line_tells l (store a v) = isnt (λ x. x)
flushes_line_tells l (flush k) = tells_equal k l
flushes_line_tells l fence = isnt (λ x. x)

-- n of the later events are done, and last tells whether the event before them is such a flush: how many are done with that event
abbrev pub done_with : ℕ → Bool → ℕ
done_with zero true = 1
done_with zero false = 0
done_with (suc n) last = suc (suc n)

-- how many events stand up to the last flush of line l that a later fence follows; 0 if there is none
abbrev pub done_count : ℕ → List Event → ℕ
done_count l [] = 0
done_count l (e ∷ es) = done_with (done_count l es) (flushes_line l e && fenced es)

abbrev positive : ℕ → Bool
positive zero = false
positive (suc n) = true

done_with_tells : {P Q : Type 0} (n : ℕ) {b : Bool} → Tells P b → Tells Q (positive n) → Tells (P ⊎ Q) (positive (done_with n b))
done_with_tells zero (is p) q = is (inl p)
done_with_tells zero (isnt p) (isnt q) = isnt (⊎_elim p q)
done_with_tells (suc n) p (is q) = is (inr q)

last_tells : (l : ℕ) (e : Event) (es : List Event) → Tells (IsFlush l e × Some IsFence es) (flushes_line l e && fenced es)
last_tells l e es = tells_and (flushes_line_tells l e) (fenced_tells es)

done_count_tells : (l : ℕ) (es : List Event) → Tells (Kept l es) (positive (done_count l es))
done_count_tells l [] = isnt (λ x. x)
done_count_tells l (e ∷ es) = done_with_tells (done_count l es) (last_tells l e es) (done_count_tells l es)

pub kept_dec : (l : ℕ) (es : List Event) → Dec (Kept l es)
kept_dec l es = go (done_count_tells l es)
  where
    go : {b : Bool} → Tells (Kept l es) b → Dec (Kept l es)
    go (is k) = yes k
    go (isnt k) = no k

pub done_count_none : (l : ℕ) (es : List Event) → ¬ Kept l es → done_count l es ≡ 0
done_count_none l es k = go (done_count l es) (done_count_tells l es)
  where
    go : (n : ℕ) → Tells (Kept l es) (positive n) → n ≡ 0
    go zero t = refl
    go (suc n) (is h) = absurd (k h)

pub done_count_next : (l : ℕ) (e : Event) (es : List Event) → Kept l (e ∷ es) → done_count l (e ∷ es) ≡ suc (done_count l es)
done_count_next l e es k = go (done_count l es) (last_tells l e es) (done_count_tells l es)
  where
    go : (n : ℕ) {b : Bool} → Tells (IsFlush l e × Some IsFence es) b → Tells (Kept l es) (positive n) → done_with n b ≡ suc n
    go zero (is p) q = refl
    go zero (isnt p) (isnt q) = absurd (⊎_elim p q k)
    go (suc n) p q = refl
