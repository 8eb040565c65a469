-- The laws of the rule of loss: words never stored to, words that are settled, and cuts of lists that join where all is settled.
use Prim.Native.Nat.{ℕ, ◌-◌, ◌+◌, ◌<◌, ◌≤◌}
use mathlib.Core.Path.{◌≡◌, sym, ◌∙◌, ap}
use mathlib.Core.Logic.Iff
use mathlib.Core.Logic.{◌⊎◌, inl, inr, ⊎_elim, ⊎_map, ◌↔◌}
use mathlib.Core.List.{List, [], ◌∷◌, ◌++◌, append-nil}
use lib.ListN.{length, take}
use lib.Seq.{take-append-le, take-append-add}
use native.Mathlib.Decide.{dec_le}
use native.Mathlib.Omega.{arith}
use Rattle.words.specs.Pool.{line}
use Rattle.words.specs.declared.event.Event.{Event}
use Rattle.words.specs.Event.{at, step, run}
use Rattle.words.specs.Loss.{IsStore, IsFence, Some, Kept, MayHold, Safe, Cut}
use Rattle.words.proofs.Events.{To, Stores, some_append, some_left, some_right, some_take}
use Rattle.words.proofs.Events.{stores_of, length_run, run_off, run_from}
use Rattle.words.proofs.Agree.{Agree, agree_inside, agree_weaken, agree_all}
use Rattle.words.proofs.Kept.{kept_left, kept_right, kept_fenced, kept_dec}
use Rattle.words.proofs.Parted.{may_hold_first, may_hold_next}

-- after a cut a word holds what it held at the start, or something that was stored to it
pub may_hold_from : {m : List ℕ} {es : List Event} {w v : ℕ} → w < length m → MayHold m es w v → (v ≡ at m w) ⊎ Some (IsStore w v) es
may_hold_from {m} {es} {w} {v} h k = go k.holds
  where
    whole : Some (IsStore w v) (k.done ++ k.since) → Some (IsStore w v) es
    whole a = rw k.all at a

    early : v ≡ at (run m k.done) w → (at (run m k.done) w ≡ at m w) ⊎ Some (IsStore w (at (run m k.done) w)) k.done
        → (v ≡ at m w) ⊎ Some (IsStore w v) es
    early e (inl q) = inl (e ∙ q)
    early e (inr q) = inr (whole (some_left (IsStore w v) k.done k.since (rw e q)))

    go : (v ≡ at (run m k.done) w) ⊎ Some (IsStore w v) k.since → (v ≡ at m w) ⊎ Some (IsStore w v) es
    go (inl e) = early e (run_from m k.done w h)
    go (inr a) = inr (whole (some_right (IsStore w v) k.done k.since a))

-- a word never stored to keeps its value over a cut ..
pub cut_off : {m m' : List ℕ} {es : List Event} → Cut m es m' → Agree (λ w. ¬ Stores w es) m' m
cut_off {m} {m'} {es} c =
    agree_inside c.size (λ w b h. ⊎_elim (λ e. e) (λ a. absurd (h (stores_of w (at m' w) es a))) (may_hold_from b (c.word w b)))

-- .. after any number of events
pub cut_off_take : {m m' : List ℕ} (n : ℕ) (es : List Event) → Cut m (take n es) m' → Agree (λ w. ¬ Stores w es) m' m
cut_off_take n es c = agree_weaken (λ w h k. h (some_take (To w) n es k)) (cut_off c)

-- with no fence each word may be found as it was, or with anything stored to it
pub cut_unfenced : {m m' : List ℕ} {es : List Event} → ¬ Some IsFence es → length m' ≡ length m
    → ((w : ℕ) → w < length m → (at m' w ≡ at m w) ⊎ Some (IsStore w (at m' w)) es) → Cut m es m'
cut_unfenced {es = es} n e f = record { size = e; word = λ w b. (may_hold_first (λ k. n (kept_fenced (line w) es k))).1 (f w b) }

-- each store to w is followed by a flush of its line that a later fence follows
abbrev pub Settled : ℕ → List Event → Type 0
Settled w [] = Unit {0}
Settled w (e ∷ es) = (To w e → Kept (line w) es) × Settled w es

pub settled_append : (w : ℕ) (s t : List Event) → Settled w s → Settled w t → Settled w (s ++ t)
settled_append w [] t h k = k
settled_append w (e ∷ s) t h k = ((λ i. kept_left (line w) s t (h.0 i)), settled_append w s t h.1 k)

settled_off : (w : ℕ) (s t : List Event) → Settled w s → ¬ Kept (line w) (s ++ t) → ¬ Stores w s
settled_off w [] t h n a = a
settled_off w (e ∷ s) t h n (inl a) = n (inr (kept_left (line w) s t (h.0 a)))
settled_off w (e ∷ s) t h n (inr a) = settled_off w s t h.1 (λ k. n (inr k)) a

-- a list that does not store to w may be left out
off_same : (m : List ℕ) (s t : List Event) (w v : ℕ) → ¬ Stores w s
    → ((v ≡ at m w) ⊎ Some (IsStore w v) (s ++ t)) ↔ ((v ≡ at (run m s) w) ⊎ Some (IsStore w v) t)
off_same m s t w v off = (⊎_map (λ x. x ∙ sym same) late, ⊎_map (λ x. x ∙ same) (some_right (IsStore w v) s t))
  where
    same : at (run m s) w ≡ at m w
    same = run_off m s w off

    late : Some (IsStore w v) (s ++ t) → Some (IsStore w v) t
    late a = ⊎_elim (λ x. absurd (off (stores_of w v s x))) (λ x. x) (some_append (IsStore w v) s t a)

-- where w is settled the rule may begin anew
pub may_hold_append : (m : List ℕ) (s t : List Event) (w v : ℕ) → Settled w s → MayHold m (s ++ t) w v ↔ MayHold (run m s) t w v
may_hold_append m [] t w v h = Iff.rfl
may_hold_append m (e ∷ s) t w v h = go (kept_dec (line w) (e ∷ s ++ t)) (may_hold_append (step m e) s t w v h.1)
  where
    go : Dec (Kept (line w) (e ∷ s ++ t)) → MayHold (step m e) (s ++ t) w v ↔ MayHold (run m (e ∷ s)) t w v
        → MayHold m (e ∷ s ++ t) w v ↔ MayHold (run m (e ∷ s)) t w v
    go (yes k) r = Iff.trans (may_hold_next k) r
    go (no k) r =
        let late : ¬ Kept (line w) t = λ x. k (kept_right (line w) (e ∷ s) t x) in
        let same = off_same m (e ∷ s) t w v (settled_off w (e ∷ s) t h k) in
        Iff.trans (may_hold_first k) (Iff.trans same (Iff.symm (may_hold_first late)))

-- a settled word has one value left, the live one
pub may_hold_settled : {m : List ℕ} {w v : ℕ} (s : List Event) → Settled w s → MayHold m s w v → v ≡ at (run m s) w
may_hold_settled {m} {w} {v} s h k =
    ⊎_elim (λ e. e) absurd ((may_hold_first (λ x. x)).0 ((may_hold_append m s [] w v h).0 (rw append-nil k)))

pub settled_safe : (m : List ℕ) (s : List Event) (w : ℕ) → Settled w s → Safe m s w
settled_safe m s w h u v j k = may_hold_settled s h j ∙ sym (may_hold_settled s h k)

pub cut_settled : {m m' : List ℕ} (s : List Event) → ((w : ℕ) → Settled w s) → Cut m s m' → m' ≡ run m s
cut_settled {m} {m'} s h c = agree_all (λ w. tt) (agree_inside (c.size ∙ sym (length_run m s)) same)
  where
    same : (w : ℕ) → w < length (run m s) → Unit {0} → at m' w ≡ at (run m s) w
    same w b p = may_hold_settled s (h w) (c.word w (rw length_run at b))

-- cuts of two lists joined, where the first settles every word: of the whole ..
pub cut_restart : {m m' : List ℕ} (s t : List Event) → ((w : ℕ) → Settled w s) → Cut m (s ++ t) m' ↔ Cut (run m s) t m'
cut_restart {m} {m'} s t h = (to, from)
  where
    to : Cut m (s ++ t) m' → Cut (run m s) t m'
    to c =
        record {
          size = c.size ∙ sym (length_run m s);
          word = λ w b. (may_hold_append m s t w (at m' w) (h w)).0 (c.word w (rw length_run at b));
        }

    from : Cut (run m s) t m' → Cut m (s ++ t) m'
    from c =
        record {
          size = c.size ∙ length_run m s;
          word = λ w b. (may_hold_append m s t w (at m' w) (h w)).1 (c.word w (rw length_run b));
        }

take_past : (s t : List Event) (n : ℕ) → length s ≤ n → take n (s ++ t) ≡ s ++ take (n - length s) t
take_past s t n b =
    let e : n ≡ length s + (n - length s) = omega arith in
    ap (λ (k : ℕ). take k (s ++ t)) e ∙ take-append-add s t (n - length s)

-- .. after n events, which end in the first list or in the second ..
pub cut_append : {m m' : List ℕ} (s t : List Event) (n : ℕ) → ((w : ℕ) → Settled w s) → Cut m (take n (s ++ t)) m'
    → ((n ≤ length s) × Cut m (take n s) m') ⊎ ((length s ≤ n) × Cut (run m s) (take (n - length s) t) m')
cut_append {m} {m'} s t n h c = go (dec_le n (length s))
  where
    go : Dec (n ≤ length s) → ((n ≤ length s) × Cut m (take n s) m') ⊎ ((length s ≤ n) × Cut (run m s) (take (n - length s) t) m')
    go (yes b) = inl (b, rw take-append-le at c)
    go (no b) =
        let past : length s ≤ n = omega arith in
        inr (past, (cut_restart s (take (n - length s) t) h).0 (rw take_past at c))

-- .. and back
pub cut_append_back : {m m' : List ℕ} (s t : List Event) (n : ℕ) → ((w : ℕ) → Settled w s)
    → ((n ≤ length s) × Cut m (take n s) m') ⊎ ((length s ≤ n) × Cut (run m s) (take (n - length s) t) m')
    → Cut m (take n (s ++ t)) m'
cut_append_back s t n h (inl (b, c)) = rw take-append-le c
cut_append_back s t n h (inr (b, c)) = rw take_past ((cut_restart s (take (n - length s) t) h).1 c)
