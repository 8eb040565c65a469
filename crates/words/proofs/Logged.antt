-- A logged change: a log is prepared, one store commits it, its pairs are replayed, and one store clears it. Cut anywhere, recoveries
-- included, it is undone, or it is done as soon as the recovery is through.
use Prim.Native.Nat.{ℕ, ◌-◌, ◌<◌, ◌≤◌}
use mathlib.Core.Path.{◌≡◌, sym, ◌∙◌, ap}
use mathlib.Core.Logic.{◌⊎◌, inl, inr, ⊎_elim}
use mathlib.Core.List.{List, [], ◌∷◌, ◌++◌, append_assoc}
use lib.ListN.{length, take}
use lib.Seq.{take_all}
use Rattle.words.specs.declared.event.Event.{Event}
use Rattle.words.specs.declared.event.Event.TheVariants.{Fence as fence}
use Rattle.words.specs.Event.{run}
use Rattle.words.specs.Blocks.{Pair, once, replay}
use Rattle.words.specs.Loss.{Safe, Cut}
use Rattle.words.specs.Cuts.{Found}
use Rattle.words.proofs.Events.{To, Stores, some_append, run_append, length_run}
use Rattle.words.proofs.Agree.{Agree, agree_self, agree_trans, agree_eq, agree_weaken, agree_off}
use Rattle.words.proofs.Loss.{Settled, settled_append, settled_safe, cut_off_take, cut_settled, cut_append}
use Rattle.words.proofs.Blocks.{Off, stores_replay, replay_same, settled_once, settled_replay}
use Rattle.words.proofs.Found.{cut_quiet, found_keeps, found_quiet}
use Rattle.words.proofs.Commit.{cut_once, Prepares, prepared_early, prepared_cut}

-- the pairs replayed, and the commit word c cleared: all that a recovery does
abbrev pub redo : ℕ → List Pair → List Event
redo c ps = replay ps ++ (fence ∷ once c 0)

abbrev pub logged : List Event → ℕ → ℕ → List Pair → List Event
logged prep c count ps = prep ++ (once c count ++ redo c ps)

-- the replay with its fence
abbrev fenced_replay : List Pair → List Event
fenced_replay ps = replay ps ++ fence ∷ []

redo_parts : (c : ℕ) (ps : List Pair) → redo c ps ≡ fenced_replay ps ++ once c 0
redo_parts c ps = sym (append_assoc (replay ps) (fence ∷ []) (once c 0))

redo_settled : (x c : ℕ) (ps : List Pair) → Settled x (redo c ps)
redo_settled x c ps = rw redo_parts (settled_append x (fenced_replay ps) (once c 0) (settled_replay x ps) (settled_once x c 0))

replay_off : (ps : List Pair) (x : ℕ) → Off ps x → ¬ Stores x (fenced_replay ps)
replay_off ps x h s = ⊎_elim (λ k. h ((stores_replay x ps).0 k)) (⊎_elim absurd absurd) (some_append (To x) (replay ps) (fence ∷ []) s)

-- done over on any memory that differs in the pairs' words only, it leaves one memory
pub redo_same : {m n : List ℕ} (c : ℕ) (ps : List Pair) → Agree (Off ps) m n → run m (redo c ps) ≡ run n (redo c ps)
redo_same {m} {n} c ps a =
    run_append m (replay ps) (fence ∷ once c 0)
    ∙ ap (λ (x : List ℕ). run x (fence ∷ once c 0)) (replay_same ps a)
    ∙ sym (run_append n (replay ps) (fence ∷ once c 0))

-- cut, it leaves such a memory or that one
redo_cut : {m m' n : List ℕ} (c : ℕ) (ps : List Pair) (k : ℕ) → c < length n → Agree (Off ps) m n → Cut m (take k (redo c ps)) m'
    → Agree (Off ps) m' n ⊎ (m' ≡ run n (redo c ps))
redo_cut {m} {m'} {n} c ps k b a h =
    ⊎_elim (λ r. inl (agree_trans (agree_weaken (replay_off ps) (cut_off_take k (fenced_replay ps) r.1)) a))
    (λ r. clear (cut_once c 0 (k - length (fenced_replay ps)) inside r.1))
    (cut_append (fenced_replay ps) (once c 0) k (λ x. settled_replay x ps) (rw redo_parts at h))
  where
    inside : c < length (run m (fenced_replay ps))
    inside = rw (length_run, a.size) b

    clear : (m' ≡ run m (fenced_replay ps)) ⊎ (m' ≡ run (run m (fenced_replay ps)) (once c 0))
        → Agree (Off ps) m' n ⊎ (m' ≡ run n (redo c ps))
    clear (inl e) = inl (agree_trans (agree_eq e) (agree_trans (agree_weaken (replay_off ps) (agree_off m (fenced_replay ps))) a))
    clear (inr e) = inr (e ∙ sym (run_append m (fenced_replay ps) (once c 0)) ∙ ap (run m) (sym (redo_parts c ps)) ∙ redo_same c ps a)

-- the plan `logged prep c count ps` on m, where words of Seen matter before: nothing is to be recovered in a memory that agrees with m on
-- them, nor in the memory after, and the recovery of the committed log, whatever the pairs' words hold, is `redo c ps`
pub record Logs (recovery : List ℕ → List Event) (Seen : ℕ → Type 0) (m : List ℕ) (prep : List Event) (c count : ℕ) (ps : List Pair)
    : Type 0 where
  pub prepares : Prepares Seen prep
  pub inside : c < length m
  pub quiet_before : (m' : List ℕ) → Agree Seen m' m → recovery m' ≡ []
  pub replays : (m' : List ℕ) → Agree (Off ps) m' (run m (prep ++ once c count)) → recovery m' ≡ redo c ps
  pub quiet_after : recovery (run m (logged prep c count ps)) ≡ []

-- what mattered before is as it was; or the log is committed, and only the pairs' words are open; or all is as after
pub data LogFound (Seen : ℕ → Type 0) (m : List ℕ) (prep : List Event) (c count : ℕ) (ps : List Pair) (m' : List ℕ) : Type 0 where
  old : Agree Seen m' m → LogFound Seen m prep c count ps m'
  mid : Agree (Off ps) m' (run m (prep ++ once c count)) → LogFound Seen m prep c count ps m'
  new : m' ≡ run m (logged prep c count ps) → LogFound Seen m prep c count ps m'

logged_parts : (prep : List Event) (c count : ℕ) (ps : List Pair) → logged prep c count ps ≡ (prep ++ once c count) ++ redo c ps
logged_parts prep c count ps = sym (append_assoc prep (once c count) (redo c ps))

module _ {recovery : List ℕ → List Event} {Seen : ℕ → Type 0} {m : List ℕ} {prep : List Event} {c count : ℕ} {ps : List Pair}
    (l : Logs recovery Seen m prep c count ps) where
  run_logged : run m (logged prep c count ps) ≡ run (run m (prep ++ once c count)) (redo c ps)
  run_logged = ap (run m) (logged_parts prep c count ps) ∙ run_append m (prep ++ once c count) (redo c ps)

  committed_settled : (x : ℕ) → Settled x (prep ++ once c count)
  committed_settled x = settled_append x prep (once c count) (l.prepares.settled x) (settled_once x c count)

  logged_settled : (x : ℕ) → Settled x (logged prep c count ps)
  logged_settled x = rw logged_parts (settled_append x (prep ++ once c count) (redo c ps) (committed_settled x) (redo_settled x c ps))

  mid_cut : {m' m'' : List ℕ} (k : ℕ) → Agree (Off ps) m' (run m (prep ++ once c count)) → Cut m' (take k (redo c ps)) m''
      → LogFound Seen m prep c count ps m''
  mid_cut k a h = ⊎_elim mid (λ e. new (e ∙ sym run_logged)) (redo_cut c ps k (rw length_run l.inside) a h)

  logged_cut : (n : ℕ) {m' : List ℕ} → Cut m (take n (logged prep c count ps)) m' → LogFound Seen m prep c count ps m'
  logged_cut n h =
      ⊎_elim (λ r. ⊎_elim old (λ e. mid (agree_eq e)) (prepared_cut l.prepares c count n l.inside r.1))
      (λ r. mid_cut (n - length (prep ++ once c count)) agree_self r.1)
      (cut_append (prep ++ once c count) (redo c ps) n committed_settled (rw logged_parts at h))

  pub logged_found : {n : ℕ} {m' : List ℕ} → Found recovery m (logged prep c count ps) n m' → LogFound Seen m prep c count ps m'
  logged_found {n} = found_keeps (LogFound Seen m prep c count ps) (λ m' h. logged_cut n h) keeps
    where
      keeps : (m' m'' : List ℕ) (k : ℕ) → LogFound Seen m prep c count ps m' → Cut m' (take k (recovery m')) m''
          → LogFound Seen m prep c count ps m''
      keeps m' m'' k (old a) h = old (rw (cut_quiet k (l.quiet_before m' a) h) a)
      keeps m' m'' k (mid a) h = mid_cut k a (rw (l.replays m' a) at h)
      keeps m' m'' k (new e) h = new (cut_quiet k (rw e l.quiet_after) h ∙ e)

  -- the recovery carried out on what was found leaves what mattered before as it was, or all as after
  pub logged_recovered : {n : ℕ} {m' : List ℕ} → Found recovery m (logged prep c count ps) n m'
      → Agree Seen (run m' (recovery m')) m ⊎ (run m' (recovery m') ≡ run m (logged prep c count ps))
  logged_recovered {n} {m'} f = go (logged_found f)
    where
      go : LogFound Seen m prep c count ps m'
          → Agree Seen (run m' (recovery m')) m ⊎ (run m' (recovery m') ≡ run m (logged prep c count ps))
      go (old a) = inl (rw (l.quiet_before m' a) a)
      go (mid a) = inr (rw (l.replays m' a) (redo_same c ps a ∙ sym run_logged))
      go (new e) = inr (rw (e, l.quiet_after))

  pub logged_early : {n : ℕ} {m' : List ℕ} → n ≤ length prep → Found recovery m (logged prep c count ps) n m' → Agree Seen m' m
  logged_early {n} b =
      found_quiet (λ m'. Agree Seen m' m) (λ m' h. prepared_early l.prepares (once c count ++ redo c ps) n b h) l.quiet_before

  pub logged_done : {n : ℕ} {m' : List ℕ} → length (logged prep c count ps) ≤ n → Found recovery m (logged prep c count ps) n m'
      → m' ≡ run m (logged prep c count ps)
  logged_done {n} b =
      found_quiet (λ m'. m' ≡ run m (logged prep c count ps))
      (λ m' h. cut_settled (logged prep c count ps) logged_settled (rw take_all at h)) (λ m' e. rw e l.quiet_after)

  pub logged_safe : (x : ℕ) → Safe m (logged prep c count ps) x
  logged_safe x = settled_safe m (logged prep c count ps) x (logged_settled x)
