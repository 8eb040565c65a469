-- The rule of loss computes: the list of the values that a word may hold is exactly what the rule says.
use Prim.Native.Nat.{ℕ, ◌<◌}
use mathlib.Core.Path.{◌≡◌, refl, sym, ap}
use mathlib.Core.Logic.Iff
use mathlib.Core.Logic.{◌⊎◌, inl, inr, ⊎_elim, ⊎_map, ◌↔◌}
use mathlib.Core.Bool.{Bool, true, false}
use mathlib.Core.List.{List, [], ◌∷◌}
use mathlib.Core.List.Memᴰ
use mathlib.Core.List.Memᴰ.{head as here}
use mathlib.Core.List.Memᴰ.{tail as there}
use mathlib.Core.List.{Memᴰ as In}
use lib.ListN.{length, set, take, drop}
use lib.Seq.{get_or-set_same, get_or-set_other}
use lib.Dec.{eqb}
use Rattle.std.specs.Prelude.{if◌then◌else◌}
use Rattle.words.specs.Pool.{line}
use Rattle.words.specs.declared.event.Event.{Event}
use Rattle.words.specs.declared.event.Event.TheVariants.{Store as store, Flush as flush, Fence as fence}
use Rattle.words.specs.Event.{at, step}
use Rattle.words.specs.Loss.{IsStore, Some, Kept, MayHold}
use Rattle.words.proofs.Tests.{Tells, is, isnt, tells_equal}
use Rattle.words.proofs.Events.{length_step}
use Rattle.words.proofs.Kept.{done_count, done_count_none, done_count_next, kept_dec}
use Rattle.words.proofs.Parted.{may_hold_first, may_hold_next}

-- what word w, holding x, holds after an event, and after events
abbrev pub next : ℕ → ℕ → Event → ℕ
next w x (store a v) = if eqb a w then v else x
next w x (flush l) = x
next w x fence = x

abbrev pub live : ℕ → ℕ → List Event → ℕ
live w x [] = x
live w x (e ∷ es) = live w (next w x e) es

-- the values stored to word w
abbrev pub more : Bool → ℕ → List ℕ → List ℕ
more true v vs = v ∷ vs
more false v vs = vs

abbrev pub stored_to : ℕ → List Event → List ℕ
stored_to w [] = []
stored_to w (store a v ∷ es) = more (eqb a w) v (stored_to w es)
stored_to w (flush l ∷ es) = stored_to w es
stored_to w (fence ∷ es) = stored_to w es

-- the values that word w, holding x at first, may hold after es and a cut, the first n of es being done
abbrev pub values_at : ℕ → ℕ → ℕ → List Event → List ℕ
values_at n w x es = live w x (take n es) ∷ stored_to w (drop n es)

unfoldable pub values : ℕ → ℕ → List Event → List ℕ
values w x es = values_at (done_count (line w) es) w x es

values_first : (w x : ℕ) (es : List Event) → ¬ Kept (line w) es → values w x es ≡ x ∷ stored_to w es
unfolding values
values_first w x es k = ap (λ (n : ℕ). values_at n w x es) (done_count_none (line w) es k)

values_next : (w x : ℕ) (e : Event) (es : List Event) → Kept (line w) (e ∷ es) → values w x (e ∷ es) ≡ values w (next w x e) es
unfolding values
values_next w x e es k = ap (λ (n : ℕ). values_at n w x (e ∷ es)) (done_count_next (line w) e es k)

in_cons : {v x : ℕ} {vs : List ℕ} → In v (x ∷ vs) ↔ ((v ≡ x) ⊎ In v vs)
in_cons = (Memᴰ.cases_cons, ⊎_elim here there)

next_at : (m : List ℕ) (w : ℕ) (e : Event) → w < length m → next w (at m w) e ≡ at (step m e) w
next_at m w (store a v) h = go (tells_equal a w)
  where
    go : {b : Bool} → Tells (a ≡ w) b → (if b then v else at m w) ≡ at (set m a v) w
    go (is r) = rw r (sym (get_or-set_same m w v 0 h))
    go (isnt r) = sym (get_or-set_other m a w v 0 (λ k. r (sym k)))
next_at m w (flush l) h = refl
next_at m w fence h = refl

stored_to_exact : (w v : ℕ) (es : List Event) → In v (stored_to w es) ↔ Some (IsStore w v) es
stored_to_exact w v [] = (Memᴰ.not-nil, absurd)
stored_to_exact w v (store a u ∷ es) = go (tells_equal a w) (stored_to_exact w v es)
  where
    go : {b : Bool} → Tells (a ≡ w) b → In v (stored_to w es) ↔ Some (IsStore w v) es
        → In v (more b u (stored_to w es)) ↔ Some (IsStore w v) (store a u ∷ es)
    go (is r) h = Iff.trans in_cons (⊎_elim (λ e. inl (r, sym e)) (λ x. inr (h.0 x)), ⊎_elim (λ e. inl (sym e.1)) (λ x. inr (h.1 x)))
    go (isnt r) h = ((λ i. inr (h.0 i)), ⊎_elim (λ e. absurd (r e.0)) h.1)
stored_to_exact w v (flush l ∷ es) = ((λ i. inr ((stored_to_exact w v es).0 i)), ⊎_elim absurd (stored_to_exact w v es).1)
stored_to_exact w v (fence ∷ es) = ((λ i. inr ((stored_to_exact w v es).0 i)), ⊎_elim absurd (stored_to_exact w v es).1)

values_unkept : (m : List ℕ) (es : List Event) (w v : ℕ) → ¬ Kept (line w) es → In v (values w (at m w) es) ↔ MayHold m es w v
values_unkept m es w v k = rw (values_first w (at m w) es k) (Iff.trans in_cons (Iff.trans each (Iff.symm (may_hold_first k))))
  where
    each : ((v ≡ at m w) ⊎ In v (stored_to w es)) ↔ ((v ≡ at m w) ⊎ Some (IsStore w v) es)
    each = (⊎_map (λ e. e) (stored_to_exact w v es).0, ⊎_map (λ e. e) (stored_to_exact w v es).1)

pub values_exact : (m : List ℕ) (es : List Event) (w v : ℕ) → w < length m → In v (values w (at m w) es) ↔ MayHold m es w v
values_exact m [] w v b = values_unkept m [] w v (λ x. x)
values_exact m (e ∷ es) w v b = go (kept_dec (line w) (e ∷ es)) (values_exact (step m e) es w v (rw length_step b))
  where
    go : Dec (Kept (line w) (e ∷ es)) → In v (values w (at (step m e) w) es) ↔ MayHold (step m e) es w v
        → In v (values w (at m w) (e ∷ es)) ↔ MayHold m (e ∷ es) w v
    go (yes k) r = rw (values_next w (at m w) e es k, next_at m w e b) (Iff.trans r (Iff.symm (may_hold_next k)))
    go (no k) r = values_unkept m (e ∷ es) w v k
