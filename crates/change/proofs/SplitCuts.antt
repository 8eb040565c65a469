-- A split survives every cut: its new nodes and its log lie where nothing is read, and its pairs where recovery may store.
use Prim.Native.Nat.{ℕ, suc, ◌+◌, ◌-◌, ◌*◌, ◌≤◌, ◌<◌}
use mathlib.Core.Path.{◌≡◌, sym, ◌∙◌, ap, subst}
use mathlib.Core.Logic.{◌⊎◌, inl, inr, ⊎_elim}
use mathlib.Core.List.{List, [], ◌∷◌, ◌++◌, append_assoc}
use mathlib.Core.Bool.{true, false}
use native.Mathlib.Omega.{arith}
use lib.ListN.{length, length-append}
use Rattle.words.specs.Pool.{used_at, log_at, commit_at, pairs_at, pairs_most, nodes_at, node_at}
use Rattle.words.specs.declared.event.Event.{Event}
use Rattle.words.specs.declared.event.Event.TheVariants.{Fence as fence}
use Rattle.words.specs.Event.{run}
use Rattle.words.specs.Blocks.{Pair, stores, stored}
use Rattle.words.proofs.Events.{Stores, run_append, length_run}
use Rattle.words.proofs.Blocks.{run_stored, Flushed, flushed_append, flushed_stored}
use Rattle.words.proofs.Commit.{Prepares, prepares_fence}
use Rattle.words.proofs.Logged.{logged}
use Rattle.node.specs.Lists.{has}
use Rattle.node.specs.View.{view, keys}
use Rattle.tree.specs.Header.{total_in, capacity_of, used_of}
use Rattle.tree.specs.WellFormed.{WellFormed}
use Rattle.tree.specs.inner.Reads.{Reads}
use Rattle.tree.proofs.Lists.{each_append}
use Rattle.tree.proofs.Form.{Form, form}
use Rattle.tree.proofs.Hole.{above}
use Rattle.tree.proofs.Way.{Reached}
use Rattle.change.specs.Steps.{full, staying_pairs}
use Rattle.change.specs.Plan.{Plan, new_nodes, log_words, log_written, log_replayed, log_finished, log_events, plan_events}
use Rattle.change.specs.Recover.{log_pairs}
use Rattle.change.specs.Put.{split, needed}
use Rattle.change.proofs.Pairs.{Within, Between, within_weaken}
use Rattle.change.proofs.Targets.{Target, InNew}
use Rattle.change.proofs.Split.{split_path, target_inside, split_placed, split_few, split_goes, split_leaves}
use Rattle.change.proofs.Goes.{Goes, AllGo, go_stores, stored_goes, node_pairs, nodes_go, log_in, go_weaken}
use Rattle.change.proofs.Recover.{Storable, AllStorable, log_read}
use Rattle.change.proofs.Unread.{log_unread, high_unread}
use Rattle.change.proofs.Survives.{Under, Survives, logged_survives}

new_flushed : (x : ℕ) (ns : List (List Pair)) → Flushed x (new_nodes ns)
unfolding new_nodes
new_flushed x [] = tt
new_flushed x (n ∷ ns) = flushed_append x (stored n) (new_nodes ns) (flushed_stored x n) (new_flushed x ns)

-- a plan that stores below the total, its new nodes above used, and whose pairs recovery may store
record Lies (m : List ℕ) (p : Plan) : Type 0 where
  above : Within (λ x. node_at (suc (used_of m)) ≤ x) (node_pairs p)
  pairs : AllStorable (total_in m) p.pairs
  some : 1 ≤ length p.pairs
  few : length p.pairs ≤ pairs_most
  under : Under (total_in m) (plan_events p)

module _ {m : List ℕ} (w : WellFormed m) (p : Plan) (l : Lies m p) (after : WellFormed (run m (plan_events p))) where
  abbrev logging : List Pair
  logging = log_words pairs_at p.pairs

  -- (a) and (b) without the fence
  abbrev early : List Event
  early = new_nodes p.nodes ++ stored logging

  size : Form m
  size = form m w.form

  parts : logged (early ++ (fence ∷ [])) commit_at (length p.pairs) p.pairs ≡ plan_events p
  unfolding plan_events log_events log_written log_finished log_replayed
  parts = simp append_assoc

  -- (a) and (b) go above used and into the log
  abbrev Early : ℕ → Type 0
  Early x = (node_at (suc (used_of m)) ≤ x) ⊎ Between pairs_at nodes_at x

  goes : AllGo Early early
  goes =
      each_append (Goes Early) (new_nodes p.nodes) (stored logging)
      (nodes_go Early p.nodes (within_weaken (λ x. node_at (suc (used_of m)) ≤ x) (node_pairs p) (λ x h. inl h) l.above))
      (stored_goes Early logging (within_weaken (Between pairs_at (pairs_at + 2 * length p.pairs)) logging
      (λ x b. inr (b.0, omega (arith, b.1, l.few))) (log_in pairs_at p.pairs)))

  unread : (x : ℕ) → Stores x early → ¬ Reads m x
  unread x s = ⊎_elim (λ h. high_unread w h) (λ b. log_unread w b.0 b.1) (go_stores Early early x goes s)

  prepares : Prepares (Reads m) (early ++ (fence ∷ []))
  prepares =
      prepares_fence early
      (λ x. flushed_append x (new_nodes p.nodes) (stored logging) (new_flushed x p.nodes) (flushed_stored x logging)) unread

  read : log_pairs (length p.pairs) pairs_at (run m (early ++ (fence ∷ []))) ≡ p.pairs
  read =
      let m₁ : List ℕ = run m (new_nodes p.nodes) in
      let ran : run m (early ++ (fence ∷ [])) ≡ run m₁ (stores logging) =
      run_append m early (fence ∷ []) ∙ run_append m (new_nodes p.nodes) (stored logging) ∙ run_stored m₁ logging in
      ap (log_pairs (length p.pairs) pairs_at) ran
      ∙ log_read m₁ p.pairs pairs_at (rw length_run (omega (arith, l.few, size.least)))

  plan_survives : Survives m (plan_events p)
  plan_survives =
      subst (Survives m) parts
      (logged_survives w prepares p.pairs l.some l.few l.pairs read (subst (Under (total_in m)) (sym parts) l.under)
      (subst (λ (es : List Event). WellFormed (run m es)) (sym parts) after))

module _ {m : List ℕ} (w : WellFormed m) {key : ℕ} (y : Reached m key) (v : ℕ) (is_full : full (view m y.place.number) ≡ true)
    (room : needed m (y.place.number ∷ above y.up) ≤ capacity_of m - used_of m) where
  abbrev path : List ℕ
  path = y.place.number ∷ above y.up

  abbrev plan : Plan
  plan = split m y.place.number (above y.up) (key, v)

  storable : (x : ℕ) → Target path x → Storable (total_in m) x
  storable x t = let b = target_inside w y x t in (b.0, out t, b.1)
    where
      out : Target path x → (x < log_at) ⊎ (nodes_at ≤ x)
      out (inl h) = inl h.1
      out (inr (j, o, n)) = inr (omega (arith, n.0, (split_path w y).range j o))

  some_pairs : 1 ≤ length plan.pairs
  unfolding split staying_pairs
  some_pairs = simp length-append (omega arith)

  lies : Lies m plan
  lies = record {
    above = within_weaken (InNew m 0 (length plan.nodes)) (node_pairs plan) (λ x h. omega (arith, h.0))
        (split_placed w y v is_full).nodes_in;
    pairs = within_weaken (Target path) plan.pairs storable (split_placed w y v is_full).pairs_in;
    some = some_pairs;
    few = split_few w y v is_full;
    under = go_weaken (Between used_at (total_in m)) (plan_events plan) (λ x b. b.1) (split_goes w y v is_full room);
  }

  pub split_survives : has key (keys (view m y.place.number).records) ≡ false
      → Survives m (plan_events (split m y.place.number (above y.up) (key, v)))
  split_survives absent = plan_survives w plan lies (split_leaves w y v is_full room absent).well_formed
