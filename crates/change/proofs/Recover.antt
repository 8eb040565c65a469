-- Recovery: of a well-formed pool it plans nothing, and of a committed log it replays what was logged and clears the commit word.
use Prim.Native.Nat.{ℕ, zero, suc, ◌+◌, ◌*◌, ◌≤◌, ◌<◌}
use mathlib.Core.Path.{◌≡◌, refl, ◌∙◌, ap}
use mathlib.Core.Logic.{◌⊎◌, inl, inr}
use mathlib.Core.List.{List, [], ◌∷◌, append_assoc}
use mathlib.Core.Bool.{Bool, true, false}
use native.Mathlib.Omega.{arith}
use lib.ListN.{length, set, length-set}
use lib.Seq.{get_or-set_same, get_or-set_other}
use lib.Dec.{leb}
use borrow.Author.Tests.{le-ltb, le-leb, leb-true, ne_eqb}
use Rattle.std.specs.Prelude.{Ok}
use Rattle.words.specs.Pool.{used_at, log_at, nodes_at, commit_at, pairs_at, pairs_most, list_words}
use Rattle.words.specs.declared.event.Event.TheVariants.{Fence as fence}
use Rattle.words.specs.Event.{at, run}
use Rattle.words.specs.Blocks.{Pair, once, stores, replay}
use Rattle.words.specs.declared.refusal.Refusal.TheVariants.{NoPool}
use Rattle.words.proofs.Tests.{both}
use Rattle.words.proofs.Fails.{Fails, breaks, keeps}
use Rattle.words.proofs.Events.{run_off}
use Rattle.words.proofs.Blocks.{Off, stores_stores}
use Rattle.words.proofs.Logged.{redo}
use Rattle.tree.specs.Header.{total_in, commit_of, form_agrees}
use Rattle.change.specs.declared.Recovery.{Recovery}
use Rattle.change.specs.declared.Recovery.TheVariants.{Clean, Recovered}
use Rattle.change.specs.Gate.{Planned, quiet, refused}
use Rattle.change.specs.Plan.{log_words, log_replayed, log_finished}
use Rattle.change.specs.Recover.{log_pairs, may_store, all_may_store, log_agrees, recover_past_form, recover, recovery}
use Rattle.change.proofs.Conditions.{BadAddress, fails_address}
use Rattle.change.proofs.Pairs.{Within, within_at, within_off}
use Rattle.change.proofs.Goes.{log_in}

-- a longer list changes nothing
pub recover_room : (m : List ℕ) {room : ℕ} → list_words ≤ room → recover room m ≡ recover list_words m
recover_room m {room} h = rw (le-ltb room list_words h)

-- "with commit word 0, Clean, no events"
pub recover_clean : (m : List ℕ) → form_agrees m ≡ true → commit_of m ≡ 0 → recover list_words m ≡ quiet Clean
unfolding recover_past_form
recover_clean m f c = rw (f, c)

pub recovery_clean : (m : List ℕ) → commit_of m ≡ 0 → recovery m ≡ []
recovery_clean m c = go (form_agrees m) refl
  where
    go : (b : Bool) → form_agrees m ≡ b → recovery m ≡ []
    go true f = ap (λ (p : Planned Recovery). p.events) (recover_clean m f c)
    go false f = ap (λ (p : Planned Recovery). p.events) (let r : recover list_words m ≡ refused NoPool = rw f in r)

-- "(d) and (e) from the log"
pub finished_redo : (ps : List Pair) → log_finished ps ≡ redo commit_at ps
unfolding log_finished log_replayed
finished_redo ps = append_assoc (replay ps) (fence ∷ []) (once commit_at 0)

-- an address that recovery takes: not "under 5, in 8..71, or not under total"
abbrev pub Storable : ℕ → ℕ → Type 0
Storable total w = (used_at ≤ w) × ((w < log_at) ⊎ (nodes_at ≤ w)) × (w < total)

abbrev pub AllStorable : ℕ → List Pair → Type 0
AllStorable total ps = Within (Storable total) ps

storable_may : (total w : ℕ) → Storable total w → may_store total w ≡ true
storable_may total w (low, out, high) = go (fails_address total w)
  where
    bad : (w < log_at) ⊎ (nodes_at ≤ w) → BadAddress total w → ⊥
    bad o (inl (inl h)) = omega arith
    bad (inl o) (inl (inr h)) = omega arith
    bad (inr o) (inl (inr h)) = omega arith
    bad o (inr h) = omega arith

    go : {b : Bool} → Fails (BadAddress total w) b → b ≡ true
    go (breaks p) = absurd (bad out p)
    go (keeps n) = refl

storable_all : (total : ℕ) (ps : List Pair) → AllStorable total ps → all_may_store total ps ≡ true
unfolding all_may_store
storable_all total [] h = refl
storable_all total (p ∷ ps) h = rw (storable_may total p.0 h.0, storable_all total ps h.1)

-- a word that recovery does not take is none of theirs
pub storable_off : (total : ℕ) (ps : List Pair) → AllStorable total ps → {w : ℕ} → (w < used_at) ⊎ ((log_at ≤ w) × (w < nodes_at))
    → Off ps w
storable_off total ps t {w} o = within_off (Storable total) ps w t (out o)
  where
    out : (w < used_at) ⊎ ((log_at ≤ w) × (w < nodes_at)) → ¬ Storable total w
    out (inl b) (low, o, high) = omega arith
    out (inr b) (low, inl o, high) = omega arith
    out (inr b) (low, inr o, high) = omega arith

-- pairs that were written there read back
pub log_read : (m : List ℕ) (ps : List Pair) (w : ℕ) → w + 2 * length ps ≤ length m
    → log_pairs (length ps) w (run m (stores (log_words w ps))) ≡ ps
unfolding log_pairs log_words
log_read m [] w b = refl
log_read m (p ∷ ps) w b =
    let m₁ : List ℕ = set m w p.0 in
    let m₂ : List ℕ = set m₁ (w + 1) p.1 in
    let rest = stores (log_words (w + 2) ps) in
    let off : (x : ℕ) → x < w + 2 → at (run m₂ rest) x ≡ at m₂ x =
    λ x h. run_off m₂ rest x (λ s.
    let r = within_at _ (log_words (w + 2) ps) x (log_in (w + 2) ps) ((stores_stores x (log_words (w + 2) ps)).0 s) in omega arith) in
    let first : at (run m₂ rest) w ≡ p.0 =
    off w (omega arith) ∙ get_or-set_other m₁ (w + 1) w p.1 0 (omega arith) ∙ get_or-set_same m w p.0 0 (omega arith) in
    let second : at (run m₂ rest) (w + 1) ≡ p.1 =
    off (w + 1) (omega arith) ∙ get_or-set_same m₁ (w + 1) p.1 0 (rw length-set (omega arith)) in
    rw (first, second, log_read m₂ ps (w + 2) (rw (length-set, length-set) (omega arith)))

-- and so in every memory that has the same words there
pub log_same : (n w : ℕ) (m m' : List ℕ) → ((x : ℕ) → w ≤ x → x < w + 2 * n → at m' x ≡ at m x) → log_pairs n w m' ≡ log_pairs n w m
unfolding log_pairs
log_same zero w m m' h = refl
log_same (suc n) w m m' h =
    rw (
      h w (omega arith) (omega arith),
      h (w + 1) (omega arith) (omega arith),
      log_same n (w + 2) m m' (λ x p q. h x (omega arith) (omega arith)),
    )

-- a log that passes its test has at most 31 pairs, and each address may be stored to
pub log_says : (m : List ℕ) → log_agrees m ≡ true
    → (commit_of m ≤ pairs_most) × (all_may_store (total_in m) (log_pairs (commit_of m) pairs_at m) ≡ true)
unfolding log_agrees
log_says m t =
    let b = both {a = leb (commit_of m) pairs_most} {b = all_may_store (total_in m) (log_pairs (commit_of m) pairs_at m)} t in
    (leb-true (commit_of m) pairs_most b.0, b.1)

-- "Recovered with the pair count c", and the events are those of the pairs
abbrev pub replaying : List Pair → Planned Recovery
replaying ps = record { answer = Ok (Recovered (length ps) (length (log_finished ps))); events = log_finished ps }

-- a committed log is accepted
pub recover_logged : (m : List ℕ) (ps : List Pair) → form_agrees m ≡ true → commit_of m ≡ length ps → 1 ≤ length ps
    → length ps ≤ pairs_most → log_pairs (length ps) pairs_at m ≡ ps → AllStorable (total_in m) ps
    → recover list_words m ≡ replaying ps
unfolding recover_past_form log_agrees
recover_logged m ps form count some few read storable =
    rw (
      form,
      count,
      ne_eqb (length ps) 0 (omega arith),
      le-leb (length ps) pairs_most few,
      read,
      storable_all (total_in m) ps storable,
    )
