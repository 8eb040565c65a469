-- The parting of the rule of loss: it exists and is the only one. So what a word may hold goes event by event, and is never nothing.
use Prim.Native.Nat.{ℕ, ◌<◌}
use mathlib.Core.Path.{◌≡◌, refl, sym, ◌∙◌, ap}
use mathlib.Core.Logic.{◌⊎◌, inl, inr, ◌↔◌}
use mathlib.Core.List.{List, [], ◌∷◌, ◌++◌, head-eq_of_cons-eq, tail-eq_of_cons-eq, cons≢nil, append_assoc}
use lib.ListN.{length}
use Rattle.words.specs.Pool.{line}
use Rattle.words.specs.declared.event.Event.{Event}
use Rattle.words.specs.declared.event.Event.TheVariants.{Store as store, Flush as flush, Fence as fence}
use Rattle.words.specs.Event.{at, step, run}
use Rattle.words.specs.Loss.{IsStore, IsFlush, IsFence, Some, Kept, Parted, MayHold, Cut}
use Rattle.words.proofs.Events.{run_append, length_run, run_from}
use Rattle.words.proofs.Kept.{kept_right, kept_dec}

-- the second half of `Parted`
abbrev From : ℕ → List Event → List Event → Type 0
From w done since = (done ≡ []) ⊎ ((r : List Event) × (done ≡ r ++ flush (line w) ∷ []) × Some IsFence since)

flush_is : (l : ℕ) (e : Event) → IsFlush l e → e ≡ flush l
flush_is l (store a v) h = absurd h
flush_is l (flush k) h = ap flush h
flush_is l fence h = absurd h

from_kept : (w : ℕ) (done since r : List Event) → done ≡ r ++ flush (line w) ∷ [] → Some IsFence since
    → Kept (line w) (done ++ since)
from_kept w done since r e f = rw (e, append_assoc) (kept_right (line w) r (flush (line w) ∷ since) (inl (refl, f)))

-- where an event is done a flush is kept ..
parted_kept : {w : ℕ} {e : Event} {done since : List Event} → Parted w (e ∷ done) since → Kept (line w) (e ∷ done ++ since)
parted_kept {w} {e} {done} {since} p = go p.from
  where
    go : From w (e ∷ done) since → Kept (line w) (e ∷ done ++ since)
    go (inl k) = absurd (cons≢nil k)
    go (inr (r, k, f)) = from_kept w (e ∷ done) since r k f

-- .. the event may be left out ..
parted_back : {w : ℕ} {e : Event} {done since : List Event} → Parted w (e ∷ done) since → Parted w done since
parted_back {w} {e} {done} {since} p = record { last = p.last; from = go p.from }
  where
    go : From w (e ∷ done) since → From w done since
    go (inl k) = absurd (cons≢nil k)
    go (inr ([], k, f)) = inl (tail-eq_of_cons-eq k)
    go (inr (x ∷ r, k, f)) = inr (r, tail-eq_of_cons-eq k, f)

-- .. and where a flush is kept one more event may be done
parted_next : {w : ℕ} {e : Event} {done since : List Event} → Kept (line w) (e ∷ done ++ since) → Parted w done since
    → Parted w (e ∷ done) since
parted_next {w} {e} {done} {since} k p = record { last = p.last; from = go k p.from }
  where
    go : Kept (line w) (e ∷ done ++ since) → From w done since → From w (e ∷ done) since
    go (inl h) (inl d) = inr ([], (let f : e ≡ flush (line w) = flush_is (line w) e h.0 in cc), rw d at h.1)
    go (inr h) (inl d) = absurd (p.last (rw d at h))
    go h (inr (r, d, f)) = inr (e ∷ r, ap (λ (x : List Event). e ∷ x) d, f)

abbrev pub Parting : ℕ → List Event → Type 0
Parting w es = (done : List Event) × (since : List Event) × (done ++ since ≡ es) × Parted w done since

pub parted : (w : ℕ) (es : List Event) → Parting w es
parted w [] = ([], [], refl, record { last = λ x. x; from = inl refl })
parted w (e ∷ es) = go (kept_dec (line w) (e ∷ es)) (parted w es)
  where
    go : Dec (Kept (line w) (e ∷ es)) → Parting w es → Parting w (e ∷ es)
    go (no k) p = ([], e ∷ es, refl, record { last = k; from = inl refl })
    go (yes k) (done, since, a, p) = (e ∷ done, since, ap (λ (x : List Event). e ∷ x) a, parted_next (rw a k) p)

pub parted_unique : {w : ℕ} {p q p' q' : List Event} → p ++ q ≡ p' ++ q' → Parted w p q → Parted w p' q' → (p ≡ p') × (q ≡ q')
parted_unique {p = []} {p' = []} e s t = (refl, e)
parted_unique {p = []} {p' = x ∷ p'} e s t = absurd (s.last (rw e (parted_kept t)))
parted_unique {p = x ∷ p} {p' = []} e s t = absurd (t.last (rw (← e) (parted_kept s)))
parted_unique {p = x ∷ p} {p' = y ∷ p'} e s t =
    let r = parted_unique (tail-eq_of_cons-eq e) (parted_back s) (parted_back t) in
    let h : x ≡ y = head-eq_of_cons-eq e in
    ((cc r.0), r.1)

-- with no flush kept a word may hold what it held, and anything stored to it
pub may_hold_first : {m : List ℕ} {es : List Event} {w v : ℕ} → ¬ Kept (line w) es
    → MayHold m es w v ↔ ((v ≡ at m w) ⊎ Some (IsStore w v) es)
may_hold_first {m} {es} {w} {v} n = (to, from)
  where
    to : MayHold m es w v → (v ≡ at m w) ⊎ Some (IsStore w v) es
    to k = go k.parted.from
      where
        go : From w k.done k.since → (v ≡ at m w) ⊎ Some (IsStore w v) es
        go (inl d) = let a : k.since ≡ es = rw d at k.all in rw (d, a) at k.holds
        go (inr (r, d, f)) = absurd (n (rw k.all at (from_kept w k.done k.since r d f)))

    from : (v ≡ at m w) ⊎ Some (IsStore w v) es → MayHold m es w v
    from h = record { done = []; since = es; all = refl; parted = record { last = n; from = inl refl }; holds = h }

-- where one is, the first event may be taken as done
pub may_hold_next : {m : List ℕ} {e : Event} {es : List Event} {w v : ℕ} → Kept (line w) (e ∷ es)
    → MayHold m (e ∷ es) w v ↔ MayHold (step m e) es w v
may_hold_next {m} {e} {es} {w} {v} n = ((λ k. to k.done k.since k.all k.parted k.holds), from)
  where
    to : (done since : List Event) → done ++ since ≡ e ∷ es → Parted w done since
        → (v ≡ at (run m done) w) ⊎ Some (IsStore w v) since → MayHold (step m e) es w v
    to [] since a p h = absurd (p.last (rw a n))
    to (x ∷ done) since a p h =
        let y : x ≡ e = head-eq_of_cons-eq a in
        record { done = done; since = since; all = tail-eq_of_cons-eq a; parted = parted_back p; holds = rw y at h }

    from : MayHold (step m e) es w v → MayHold m (e ∷ es) w v
    from k =
        record {
          done = e ∷ k.done;
          since = k.since;
          all = ap (λ (x : List Event). e ∷ x) k.all;
          parted = parted_next (rw k.all n) k.parted;
          holds = k.holds;
        }

-- the live memory is one of those that a cut may leave
pub may_hold_live : (m : List ℕ) (es : List Event) (w : ℕ) → w < length m → MayHold m es w (at (run m es) w)
may_hold_live m es w h = go (parted w es)
  where
    go : Parting w es → MayHold m es w (at (run m es) w)
    go (done, since, a, p) =
        let r : run m es ≡ run (run m done) since = ap (run m) (sym a) ∙ run_append m done since in
        record { done = done; since = since; all = a; parted = p; holds = rw r (run_from (run m done) since w (rw length_run h)) }

pub cut_live : (m : List ℕ) (es : List Event) → Cut m es (run m es)
cut_live m es = record { size = length_run m es; word = may_hold_live m es }
