-- Plans that look right and are not: for each the cut that shows it, over any memory, and the premise of the laws that it does not meet.
use Prim.Native.Nat.{ℕ, ◌+◌, ◌<◌, ◌≤◌}
use mathlib.Core.Path.{◌≡◌, refl, sym, ◌∙◌, ap}
use mathlib.Core.Logic.{◌⊎◌, inl, inr, ⊎_elim, ◌≢◌}
use mathlib.Core.List.{List, [], ◌∷◌, ◌++◌}
use lib.ListN.{length, set, take, length-set, length-append}
use lib.Seq.{get_or-set_same, get_or-set_other, take-append-add}
use native.Mathlib.Decide.{ℕ_discrete}
use native.Mathlib.Omega.{arith}
use Rattle.words.specs.Pool.{line}
use Rattle.words.specs.declared.event.Event.{Event}
use Rattle.words.specs.declared.event.Event.TheVariants.{Store as store, Flush as flush}
use Rattle.words.specs.Event.{at, run}
use Rattle.words.specs.Blocks.{Pair, once, stores, flushes, lines, stored}
use Rattle.words.specs.Loss.{IsStore, IsFence, Some, Parted, Cut}
use Rattle.words.proofs.Events.{To, Stores, some_append, some_right, run_append, length_run, run_off}
use Rattle.words.proofs.Agree.{Agree}
use Rattle.words.proofs.Kept.{kept_fenced}
use Rattle.words.proofs.Parted.{cut_live}
use Rattle.words.proofs.Loss.{Settled, cut_unfenced}
use Rattle.words.proofs.Blocks.{Addressed, Off, stores_stored}
use Rattle.words.proofs.Commit.{Prepares}

-- with no fence yet, a store may be kept and all others be lost
overtakes : (m : List ℕ) (s t : List Event) (w v : ℕ) → ¬ Some IsFence (s ++ store w v ∷ t) → w < length m
    → Cut m (s ++ store w v ∷ t) (set m w v)
overtakes m s t w v n b = cut_unfenced n (length-set m w v) (λ x h. go x (ℕ_discrete w x))
  where
    go : (x : ℕ) → Dec (w ≡ x) → (at (set m w v) x ≡ at m x) ⊎ Some (IsStore x (at (set m w v) x)) (s ++ store w v ∷ t)
    go x (yes e) = inr (some_right (IsStore x (at (set m w v) x)) s (store w v ∷ t) (inl (e, rw (← e) (sym (get_or-set_same m w v 0 b)))))
    go x (no e) = inl (get_or-set_other m w x v 0 (λ k. e (sym k)))

settled_fenced : (w : ℕ) (s : List Event) → Settled w s → Stores w s → Some IsFence s
settled_fenced w [] h a = a
settled_fenced w (e ∷ s) h (inl a) = inr (kept_fenced (line w) s (h.0 a))
settled_fenced w (e ∷ s) h (inr a) = inr (settled_fenced w s h.1 a)

stores_unfenced : (ps : List Pair) → ¬ Some IsFence (stores ps)
stores_unfenced [] h = h
stores_unfenced (p ∷ ps) h = ⊎_elim absurd (stores_unfenced ps) h

flushes_unfenced : (ls : List ℕ) → ¬ Some IsFence (flushes ls)
flushes_unfenced [] h = h
flushes_unfenced (l ∷ ls) h = ⊎_elim absurd (flushes_unfenced ls) h

stored_unfenced : (ps : List Pair) → ¬ Some IsFence (stored ps)
unfolding stored
stored_unfenced ps h =
    ⊎_elim (stores_unfenced ps) (flushes_unfenced (lines ps)) (some_append IsFence (stores ps) (flushes (lines ps)) h)

-- the slot word s is stored before the entry word e is fenced: the cut leaves the new slot word over the old entry
pub slot_too_early : (m : List ℕ) (e x s v : ℕ) → s < length m → e ≢ s
    → Cut m (take 3 (store e x ∷ flush (line e) ∷ once s v)) (set m s v) × (at (set m s v) s ≡ v) × (at (set m s v) e ≡ at m e)
slot_too_early m e x s v b n =
    (overtakes m (store e x ∷ flush (line e) ∷ []) [] s v unfenced b, get_or-set_same m s v 0 b, get_or-set_other m s e v 0 n)
  where
    unfenced : ¬ Some IsFence (store e x ∷ flush (line e) ∷ store s v ∷ [])
    unfenced = ⊎_elim absurd (⊎_elim absurd (⊎_elim absurd absurd))

pub slot_too_early_unprepared : {Seen : ℕ → Type 0} (e x : ℕ) → ¬ Prepares Seen (store e x ∷ flush (line e) ∷ [])
slot_too_early_unprepared e x p =
    ⊎_elim absurd (⊎_elim absurd absurd) (settled_fenced e (store e x ∷ flush (line e) ∷ []) (p.settled e) (inl refl))

-- the commit word shares the pairs' fence: the cut before it leaves the commit word set over a log whose words are old
pub commit_shares_fence : (m : List ℕ) (ps : List Pair) (c count : ℕ) → c < length m → Off ps c
    → Cut m (take (length (stored ps) + 2) (stored ps ++ once c count)) (set m c count)
    × (at (set m c count) c ≡ count)
    × ((w : ℕ) → Addressed w ps → at (set m c count) w ≡ at m w)
commit_shares_fence m ps c count b n =
    (rw take-append-add (overtakes m (stored ps) (flush (line c) ∷ []) c count unfenced b), get_or-set_same m c count 0 b, still)
  where
    unfenced : ¬ Some IsFence (stored ps ++ store c count ∷ flush (line c) ∷ [])
    unfenced h =
        ⊎_elim (stored_unfenced ps) (⊎_elim absurd (⊎_elim absurd absurd))
        (some_append IsFence (stored ps) (store c count ∷ flush (line c) ∷ []) h)

    still : (w : ℕ) → Addressed w ps → at (set m c count) w ≡ at m w
    still w a = get_or-set_other m c w count 0 (λ e. n (rw e at a))

pub commit_shares_fence_unprepared : {Seen : ℕ → Type 0} (p : Pair) (ps : List Pair) → ¬ Prepares Seen (stored (p ∷ ps))
commit_shares_fence_unprepared p ps r =
    stored_unfenced (p ∷ ps) (settled_fenced p.0 (stored (p ∷ ps)) (r.settled p.0) ((stores_stored p.0 (p ∷ ps)).1 (inl refl)))

-- a staying record is stored straight into a word e that matters, and a word s is still to be changed: the cut after that store leaves
-- neither what was before nor what is after
pub entry_in_place : {Seen : ℕ → Type 0} (m : List ℕ) (prep t : List Event) (e x s : ℕ) → Seen e → e < length m → x ≢ at m e
    → ¬ Stores s (prep ++ store e x ∷ []) → at (run m (prep ++ store e x ∷ t)) s ≢ at m s
    → Cut m (take (length prep + 1) (prep ++ store e x ∷ t)) (run m (prep ++ store e x ∷ []))
    × (¬ Agree Seen (run m (prep ++ store e x ∷ [])) m)
    × (run m (prep ++ store e x ∷ []) ≢ run m (prep ++ store e x ∷ t))
entry_in_place {Seen} m prep t e x s seen b n off later = (rw take-append-add (cut_live m (prep ++ store e x ∷ [])), before, after)
  where
    now : at (run m (prep ++ store e x ∷ [])) e ≡ x
    now = rw run_append (get_or-set_same (run m prep) e x 0 (rw length_run b))

    before : ¬ Agree Seen (run m (prep ++ store e x ∷ [])) m
    before a = n (sym now ∙ a.words e seen)

    after : run m (prep ++ store e x ∷ []) ≢ run m (prep ++ store e x ∷ t)
    after k = later (ap (λ (y : List ℕ). at y s) (sym k) ∙ run_off m (prep ++ store e x ∷ []) s off)

pub entry_in_place_unprepared : {Seen : ℕ → Type 0} (prep t : List Event) (e x : ℕ) → Seen e → ¬ Prepares Seen (prep ++ store e x ∷ t)
entry_in_place_unprepared prep t e x seen p = p.unseen e (some_right (To e) prep (store e x ∷ t) (inl refl)) seen

-- a rule of loss that forgets the stores since the last kept flush
pub record Forgetful (m : List ℕ) (es : List Event) (w v : ℕ) : Type 0 where
  pub done : List Event
  pub since : List Event
  pub all : done ++ since ≡ es
  pub parted : Parted w done since
  pub holds : v ≡ at (run m done) w

some_there : (P : Event → Type 0) (s : List Event) → Some P s → 1 ≤ length s
some_there P [] h = absurd h
some_there P (e ∷ s) h = omega arith

-- it denies that a store may have reached the module, though the memory as it runs holds it
pub forgetful_denies_live : ¬ Forgetful (0 ∷ []) (store 0 1 ∷ []) 0 1
forgetful_denies_live k = go k.parted.from
  where
    go : (k.done ≡ []) ⊎ ((r : List Event) × (k.done ≡ r ++ flush (line 0) ∷ []) × Some IsFence k.since) → ⊥
    go (inl d) = let h : 1 ≡ at (run (0 ∷ []) []) 0 = rw d at k.holds in omega arith
    go (inr (r, d, f)) =
        let two : length (r ++ flush (line 0) ∷ []) + length k.since ≡ 1 = rw (d, length-append) at (ap length k.all) in
        omega (arith, some_there IsFence k.since f, length-append r (flush (line 0) ∷ []))
