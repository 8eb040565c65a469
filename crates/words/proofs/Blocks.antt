-- The runs of events that changes are made of: what they store to, that a fence settles them, and how long they are.
use Prim.Native.Nat.{ℕ, suc, ◌+◌, ◌*◌}
use mathlib.Core.Path.{◌≡◌, refl, ◌∙◌, ap}
use mathlib.Core.Logic.{◌⊎◌, inl, inr, ⊎_elim, ◌↔◌}
use mathlib.Core.Bool.{Bool}
use mathlib.Core.List.{List, [], ◌∷◌, ◌++◌}
use lib.ListN.{length, length-append}
use native.Mathlib.Omega.{arith}
use Rattle.words.specs.Pool.{line}
use Rattle.std.specs.Prelude.{if◌then◌else◌}
use Rattle.words.specs.declared.event.Event.{Event}
use Rattle.words.specs.declared.event.Event.TheVariants.{Store as store, Flush as flush, Fence as fence}
use Rattle.words.specs.Event.{run}
use Rattle.words.specs.Blocks.{Pair, once, stores, flushes, lines, stored, replay}
use Rattle.words.specs.Loss.{IsFlush, IsFence, Some, Kept}
use Rattle.words.proofs.Tests.{Tells, is, isnt, tells_equal}
use Rattle.words.proofs.Events.{To, Stores, some_append, some_left, some_right, stores_dec, run_append}
use Rattle.words.proofs.Agree.{Agree, agree_run, agree_all}
use Rattle.words.proofs.Loss.{Settled}

-- w is the address of one of the pairs
abbrev pub Addressed : ℕ → List Pair → Type 0
Addressed w [] = ⊥
Addressed w (p ∷ ps) = (p.0 ≡ w) ⊎ Addressed w ps

-- the words that the pairs leave alone
abbrev pub Off : List Pair → ℕ → Type 0
Off ps w = ¬ Addressed w ps

-- what the runs store to: the words that the pairs address, and nothing else
pub stores_stores : (w : ℕ) (ps : List Pair) → Stores w (stores ps) ↔ Addressed w ps
stores_stores w [] = ((λ x. x), (λ x. x))
stores_stores w (p ∷ ps) =
    (⊎_elim inl (λ x. inr ((stores_stores w ps).0 x)), ⊎_elim inl (λ x. inr ((stores_stores w ps).1 x)))

stores_flushes : (w : ℕ) (ls : List ℕ) → ¬ Stores w (flushes ls)
stores_flushes w [] h = h
stores_flushes w (l ∷ ls) (inl h) = h
stores_flushes w (l ∷ ls) (inr h) = stores_flushes w ls h

pub stores_stored : (w : ℕ) (ps : List Pair) → Stores w (stored ps) ↔ Addressed w ps
unfolding stored
stores_stored w ps = (to, λ h. some_left (To w) (stores ps) (flushes (lines ps)) ((stores_stores w ps).1 h))
  where
    to : Stores w (stores ps ++ flushes (lines ps)) → Addressed w ps
    to h =
        ⊎_elim (stores_stores w ps).0 (λ x. absurd (stores_flushes w (lines ps) x))
        (some_append (To w) (stores ps) (flushes (lines ps)) h)

pub stores_replay : (w : ℕ) (ps : List Pair) → Stores w (replay ps) ↔ Addressed w ps
unfolding replay
stores_replay w [] = ((λ x. x), (λ x. x))
stores_replay w (p ∷ ps) =
    (⊎_elim inl (⊎_elim absurd (λ x. inr ((stores_replay w ps).0 x))), ⊎_elim inl (λ x. inr (inr ((stores_replay w ps).1 x))))

pub stores_once : (w a v : ℕ) → Stores w (once a v) ↔ (a ≡ w)
stores_once w a v = (⊎_elim (λ e. e) (⊎_elim absurd (⊎_elim absurd absurd)), inl)

-- flushes change no live word, so all three leave what the stores leave
run_flushes : (m : List ℕ) (ls : List ℕ) → run m (flushes ls) ≡ m
run_flushes m [] = refl
run_flushes m (l ∷ ls) = run_flushes m ls

pub run_stored : (m : List ℕ) (ps : List Pair) → run m (stored ps) ≡ run m (stores ps)
unfolding stored
run_stored m ps = run_append m (stores ps) (flushes (lines ps)) ∙ run_flushes (run m (stores ps)) (lines ps)

pub run_replay : (m : List ℕ) (ps : List Pair) → run m (replay ps) ≡ run m (stores ps)
unfolding replay
run_replay m [] = refl
run_replay m (p ∷ ps) = run_replay (run m (once p.0 p.1)) ps

-- the pairs leave one memory, whatever their words held before
pub replay_same : {m n : List ℕ} (ps : List Pair) → Agree (Off ps) m n → run m (replay ps) ≡ run n (replay ps)
replay_same {m} {n} ps a = agree_all (λ w. go w (stores_dec w (replay ps))) (agree_run (replay ps) a)
  where
    go : (w : ℕ) → Dec (Stores w (replay ps)) → Off ps w ⊎ Stores w (replay ps)
    go w (yes h) = inr h
    go w (no h) = inl (λ x. h ((stores_replay w ps).1 x))

-- each store to w is followed by a flush of its line
abbrev pub Flushed : ℕ → List Event → Type 0
Flushed w [] = Unit {0}
Flushed w (e ∷ es) = (To w e → Some (IsFlush (line w)) es) × Flushed w es

pub flushed_append : (w : ℕ) (s t : List Event) → Flushed w s → Flushed w t → Flushed w (s ++ t)
flushed_append w [] t h k = k
flushed_append w (e ∷ s) t h k = ((λ i. some_left (IsFlush (line w)) s t (h.0 i)), flushed_append w s t h.1 k)

flushed_before : (w : ℕ) (s t : List Event) → (Stores w s → Some (IsFlush (line w)) t) → Flushed w t → Flushed w (s ++ t)
flushed_before w [] t h k = k
flushed_before w (e ∷ s) t h k = ((λ i. some_right (IsFlush (line w)) s t (h (inl i))), flushed_before w s t (λ a. h (inr a)) k)

kept_fence : (l : ℕ) (s : List Event) → Some (IsFlush l) s → Kept l (s ++ fence ∷ [])
kept_fence l [] h = absurd h
kept_fence l (e ∷ s) (inl h) = inl (h, some_right IsFence s (fence ∷ []) (inl tt))
kept_fence l (e ∷ s) (inr h) = inr (kept_fence l s h)

pub settled_fence : (w : ℕ) (s : List Event) → Flushed w s → Settled w (s ++ fence ∷ [])
settled_fence w [] h = (absurd, tt)
settled_fence w (e ∷ s) h = ((λ i. kept_fence (line w) s (h.0 i)), settled_fence w s h.1)

pub settled_once : (w a v : ℕ) → Settled w (once a v)
settled_once w a v = settled_fence w (store a v ∷ flush (line a) ∷ []) ((λ e. inl (ap line e)), (absurd, tt))

flushed_flushes : (w : ℕ) (ls : List ℕ) → Flushed w (flushes ls)
flushed_flushes w [] = tt
flushed_flushes w (l ∷ ls) = (absurd, flushed_flushes w ls)

-- the line of each pair's word is among the lines
lines_all : (w : ℕ) (ps : List Pair) → Addressed w ps → Some (IsFlush (line w)) (flushes (lines ps))
unfolding lines
lines_all w [] h = h
lines_all w (p ∷ []) (inl e) = inl (ap line e)
lines_all w (p ∷ []) (inr h) = absurd h
lines_all w (p ∷ (q ∷ ps)) h = go (tells_equal (line p.0) (line q.0)) h (lines_all w (q ∷ ps)) (lines_all q.0 (q ∷ ps) (inl refl))
  where
    rest : List ℕ
    rest = lines (q ∷ ps)

    go : {b : Bool} → Tells (line p.0 ≡ line q.0) b → Addressed w (p ∷ (q ∷ ps))
        → (Addressed w (q ∷ ps) → Some (IsFlush (line w)) (flushes rest)) → Some (IsFlush (line q.0)) (flushes rest)
        → Some (IsFlush (line w)) (flushes (if b then rest else (line p.0 ∷ rest)))
    go (is k) (inl e) later next = rw (← (ap line e), k) next
    go (is k) (inr h) later next = later h
    go (isnt k) (inl e) later next = inl (ap line e)
    go (isnt k) (inr h) later next = inr (later h)

pub flushed_stored : (w : ℕ) (ps : List Pair) → Flushed w (stored ps)
unfolding stored
flushed_stored w ps =
    flushed_before w (stores ps) (flushes (lines ps)) (λ h. lines_all w ps ((stores_stores w ps).0 h)) (flushed_flushes w (lines ps))

flushed_replay : (w : ℕ) (ps : List Pair) → Flushed w (replay ps)
unfolding replay
flushed_replay w [] = tt
flushed_replay w (p ∷ ps) = ((λ e. inl (ap line e)), (absurd, flushed_replay w ps))

pub settled_replay : (w : ℕ) (ps : List Pair) → Settled w (replay ps ++ fence ∷ [])
settled_replay w ps = settled_fence w (replay ps) (flushed_replay w ps)

-- lengths
pub length_stores : (ps : List Pair) → length (stores ps) ≡ length ps
length_stores [] = refl
length_stores (p ∷ ps) = ap suc (length_stores ps)

pub length_flushes : (ls : List ℕ) → length (flushes ls) ≡ length ls
length_flushes [] = refl
length_flushes (l ∷ ls) = ap suc (length_flushes ls)

pub length_stored : (ps : List Pair) → length (stored ps) ≡ length ps + length (lines ps)
unfolding stored
length_stored ps = rw (length-append, length_stores, length_flushes)

pub length_replay : (ps : List Pair) → length (replay ps) ≡ 2 * length ps
unfolding replay
length_replay [] = refl
length_replay (p ∷ ps) = let r = length_replay ps in omega arith
