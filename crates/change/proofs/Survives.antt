-- A change that survives every cut: recovery takes whatever is found, and leaves what is read as it was or all as after the change. So
-- does one that commits by one store, and one that commits by its log.
use Prim.Native.Nat.{ℕ, ◌+◌, ◌*◌, ◌≤◌, ◌<◌}
use mathlib.Core.Path.{◌≡◌, ◌∙◌, ap}
use mathlib.Core.Logic.{◌⊎◌, inl, inr, ⊎_elim}
use mathlib.Core.List.{List, [], ◌∷◌, ◌++◌}
use mathlib.Core.Bool.{true}
use native.Mathlib.Omega.{arith}
use lib.ListN.{length}
use lib.Seq.{get_or-set_same, get_or-set_other}
use Rattle.std.specs.Prelude.{Ok, Err}
use Rattle.words.specs.Pool.{used_at, commit_at, pairs_at, nodes_at, pairs_most, list_words}
use Rattle.words.specs.declared.event.Event.{Event}
use Rattle.words.specs.declared.event.Event.TheVariants.{Fence as fence}
use Rattle.words.specs.Event.{at, run, top_byte}
use Rattle.words.specs.Blocks.{Pair, once, replay}
use Rattle.words.specs.Loss.{Safe}
use Rattle.words.specs.Cuts.{Found}
use Rattle.words.specs.declared.refusal.Refusal.{Refusal}
use Rattle.words.proofs.Events.{run_append, run_off, length_run}
use Rattle.words.proofs.Agree.{Agree}
use Rattle.words.proofs.Loss.{settled_append, settled_safe}
use Rattle.words.proofs.Blocks.{Off, settled_once, settled_replay}
use Rattle.words.proofs.Commit.{Prepares, Commits, commit_found, commit_done, commit_safe}
use Rattle.words.proofs.Logged.{redo, logged, Logs, LogFound, old, mid, new, logged_found, logged_recovered, logged_done, logged_safe}
use Rattle.tree.specs.Header.{total_in, form_agrees}
use Rattle.tree.specs.WellFormed.{WellFormed}
use Rattle.tree.specs.Map.{map_of}
use Rattle.tree.specs.inner.Reads.{Reads}
use Rattle.tree.proofs.Lists.{each_left, each_right}
use Rattle.tree.proofs.Form.{Form, form, form_same}
use Rattle.tree.proofs.Read.{reads_same, reads_same_map}
use Rattle.change.specs.declared.Recovery.{Recovery}
use Rattle.change.specs.declared.Recovery.TheVariants.{Clean, Recovered}
use Rattle.change.specs.Gate.{Planned}
use Rattle.change.specs.Plan.{log_written, log_committed, log_replayed, log_finished, log_events}
use Rattle.change.specs.Recover.{log_pairs, recover, recovery}
use Rattle.change.proofs.Pairs.{within_weaken}
use Rattle.change.proofs.Counts.{finished_count}
use Rattle.change.proofs.Goes.{Goes, AllGo, go_stores, log_goes}
use Rattle.change.proofs.Recover.{replaying, recovery_clean, recover_clean, finished_redo, Storable, AllStorable}
use Rattle.change.proofs.Recover.{storable_off, log_same, recover_logged}

-- events that store, and flush, under n alone
abbrev pub Under : ℕ → List Event → Type 0
Under n es = AllGo (λ x. x < n) es

-- recovery takes a memory: it plans few events, under the total, and after the last of them every word is safe
pub record Accepts (m : List ℕ) : Type 0 where
  pub unrefused : (why : Refusal) → (recover list_words m).answer ≡ Err why → ⊥
  pub few : length (recovery m) ≤ 2 * pairs_most + 4
  pub form : Form m
  pub under : Under (total_in m) (recovery m)
  pub safe : (x : ℕ) → Safe m (recovery m) x

pub recovery_none : {m : List ℕ} → WellFormed m → recovery m ≡ []
recovery_none {m} w = recovery_clean m w.clean

pub accepts_clean : {m : List ℕ} → WellFormed m → Accepts m
accepts_clean {m} w = record {
  unrefused = λ why e. let k : Ok Clean ≡ Err why = rw (recover_clean m w.form w.clean) at e in cc;
  few = rw (recovery_none w) (omega arith);
  form = form m w.form;
  under = rw (recovery_none w) tt;
  safe = λ x. rw (recovery_none w) (settled_safe m [] x tt);
}

-- total is under the least number that does not fit below an event's kind
pub total_fits : {m : List ℕ} → Form m → total_in m ≤ top_byte
total_fits f = omega (arith, f.total, f.capacity)

finished_under : (n : ℕ) (ps : List Pair) → nodes_at ≤ n → length ps ≤ pairs_most → AllStorable n ps → Under n (log_finished ps)
unfolding log_events
finished_under n ps h few t =
    let P : ℕ → Type 0 = λ (x : ℕ). x < n in
    each_right (Goes P) (log_committed ps) (log_finished ps)
    (each_right (Goes P) (log_written ps) (log_committed ps ++ log_finished ps)
    (log_goes P ps few (within_weaken (Storable n) ps (λ x s. s.2) t) (λ x b. omega (arith, b.1))))

finished_safe : (m : List ℕ) (ps : List Pair) (x : ℕ) → Safe m (log_finished ps) x
unfolding log_finished log_replayed
finished_safe m ps x =
    settled_safe m (log_finished ps) x
    (settled_append x (replay ps ++ (fence ∷ [])) (once commit_at 0) (settled_replay x ps) (settled_once x commit_at 0))

accepts_logged : (m : List ℕ) (ps : List Pair) → Form m → AllStorable (total_in m) ps → length ps ≤ pairs_most
    → recover list_words m ≡ replaying ps → Accepts m
accepts_logged m ps f t few e =
    let es : recovery m ≡ log_finished ps = ap (λ (p : Planned Recovery). p.events) e in
    record {
      unrefused = λ why k. let k' : Ok (Recovered (length ps) (length (log_finished ps))) ≡ Err why = rw e at k in cc;
      few = rw es (omega (arith, finished_count ps));
      form = f;
      under = rw es (finished_under (total_in m) ps (omega (arith, f.total)) few t);
      safe = λ x. rw es (finished_safe m ps x);
    }

-- the words that must stay while a change is not committed: those that are read, and those past the total
abbrev pub Seen : List ℕ → ℕ → Type 0
Seen m x = Reads m x ⊎ (total_in m ≤ x)

module _ {m m' : List ℕ} (w : WellFormed m) (a : Agree (Seen m) m' m) where
  pub seen_well_formed : WellFormed m'
  seen_well_formed = reads_same m m' a.size (λ x h r. a.words x (inl r)) w

  pub seen_map : map_of m' ≡ map_of m
  seen_map = reads_same_map m m' a.size (λ x h r. a.words x (inl r)) w

-- the events es on m, cut anywhere, and their recovery again and again
pub record Survives (m : List ℕ) (es : List Event) : Type 0 where
  pub accepts : {n : ℕ} {m' : List ℕ} → Found recovery m es n m' → Accepts m'
  pub leaves : {n : ℕ} {m' : List ℕ} → Found recovery m es n m'
      → Agree (Seen m) (run m' (recovery m')) m ⊎ (run m' (recovery m') ≡ run m es)
  pub last : {n : ℕ} {m' : List ℕ} → length es ≤ n → Found recovery m es n m' → run m' (recovery m') ≡ run m es
  pub safe : (x : ℕ) → Safe m es x
  pub under : Under (total_in m) es

module _ {m : List ℕ} (w : WellFormed m) {prep : List Event} (p : Prepares (Reads m) prep) where
  size : Form m
  size = form m w.form

  prepares : Under (total_in m) prep → Prepares (Seen m) prep
  prepares u = record {
    settled = p.settled;
    unseen = λ x s. ⊎_elim (p.unseen x s) (λ h. omega (arith, go_stores (λ z. z < total_in m) prep x u s));
  }

  -- one store commits
  module _ (a v : ℕ) (u : Under (total_in m) (prep ++ once a v)) (after : WellFormed (run m (prep ++ once a v))) where
    before : Under (total_in m) prep
    before = each_left (Goes (λ x. x < total_in m)) prep (once a v) u

    committing : Under (total_in m) (once a v)
    committing = each_right (Goes (λ x. x < total_in m)) prep (once a v) u

    commits : Commits recovery (Seen m) m prep a v
    commits = record {
      prepares = prepares before;
      inside = omega (arith, size.room, committing.0);
      quiet_before = λ m' g. recovery_none (seen_well_formed w g);
      quiet_after = recovery_none after;
    }

    found_well_formed : {m' : List ℕ} → Agree (Seen m) m' m ⊎ (m' ≡ run m (prep ++ once a v)) → WellFormed m'
    found_well_formed (inl g) = seen_well_formed w g
    found_well_formed (inr e) = rw e after

    pub commit_survives : Survives m (prep ++ once a v)
    commit_survives = record {
      accepts = λ f. accepts_clean (found_well_formed (commit_found commits f));
      leaves = λ f. let l = commit_found commits f in rw (recovery_none (found_well_formed l)) l;
      last = λ b f. let e = commit_done commits b f in rw (recovery_none (found_well_formed (inr e))) e;
      safe = commit_safe commits;
      under = u;
    }

  -- a log commits
  module _ (ps : List Pair) (some : 1 ≤ length ps) (few : length ps ≤ pairs_most) (t : AllStorable (total_in m) ps)
      (read : log_pairs (length ps) pairs_at (run m prep) ≡ ps) (u : Under (total_in m) (logged prep commit_at (length ps) ps))
      (after : WellFormed (run m (logged prep commit_at (length ps) ps))) where
    abbrev committed : List ℕ
    committed = run m (prep ++ once commit_at (length ps))

    long : commit_at < length (run m prep)
    long = rw length_run (omega (arith, size.least))

    module _ {m' : List ℕ} (a : Agree (Off ps) m' committed) where
      -- a word that no pair stores to
      word : (x : ℕ) → (x < used_at) ⊎ ((commit_at ≤ x) × (x < nodes_at)) → at m' x ≡ at (run (run m prep) (once commit_at (length ps))) x
      word x o =
          a.words x (storable_off (total_in m) ps t o) ∙ ap (λ (z : List ℕ). at z x) (run_append m prep (once commit_at (length ps)))

      header : (x : ℕ) → x < used_at → at m' x ≡ at m x
      header x h =
          word x (inl h) ∙ get_or-set_other (run m prep) commit_at x (length ps) 0 (omega arith)
          ∙ run_off m prep x (λ s. p.unseen x s (inl (omega arith)))

      log_word : (x : ℕ) → pairs_at ≤ x → x < pairs_at + 2 * length ps → at m' x ≡ at (run m prep) x
      log_word x b c = word x (inr (omega arith, omega arith)) ∙ get_or-set_other (run m prep) commit_at x (length ps) 0 (omega arith)

      form_kept : form_agrees m' ≡ true
      form_kept = form_same m m' (a.size ∙ length_run m (prep ++ once commit_at (length ps))) header ∙ w.form

      storable_kept : AllStorable (total_in m') ps
      storable_kept = rw (header 1 (omega arith)) t

      replayed : recover list_words m' ≡ replaying ps
      replayed =
          recover_logged m' ps form_kept
          (word commit_at (inr (omega arith, omega arith)) ∙ get_or-set_same (run m prep) commit_at (length ps) 0 long)
          some few (log_same (length ps) pairs_at (run m prep) m' log_word ∙ read) storable_kept

    logs : Logs recovery (Seen m) m prep commit_at (length ps) ps
    logs = record {
      prepares = prepares (each_left (Goes (λ x. x < total_in m)) prep (once commit_at (length ps) ++ redo commit_at ps) u);
      inside = omega (arith, size.least);
      quiet_before = λ m' g. recovery_none (seen_well_formed w g);
      replays = λ m' a. ap (λ (q : Planned Recovery). q.events) (replayed a) ∙ finished_redo ps;
      quiet_after = recovery_none after;
    }

    log_accepts : {m' : List ℕ} → LogFound (Seen m) m prep commit_at (length ps) ps m' → Accepts m'
    log_accepts (old g) = accepts_clean (seen_well_formed w g)
    log_accepts {m'} (mid a) = accepts_logged m' ps (form m' (form_kept a)) (storable_kept a) few (replayed a)
    log_accepts (new e) = accepts_clean (rw e after)

    pub logged_survives : Survives m (logged prep commit_at (length ps) ps)
    logged_survives = record {
      accepts = λ f. log_accepts (logged_found logs f);
      leaves = λ f. logged_recovered logs f;
      last = λ b f. let e = logged_done logs b f in rw (e, recovery_none after);
      safe = logged_safe logs;
      under = u;
    }
