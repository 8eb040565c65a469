-- What the events of a plan leave: all that it stores stands, and no other word but the log's has changed.
use Prim.Native.Nat.{ℕ, ◌≤◌, ◌<◌}
use mathlib.Core.Path.{◌≡◌, refl, sym, ◌∙◌, ap}
use mathlib.Core.List.{List, [], ◌∷◌, ◌++◌}
use lib.ListN.{length, set}
use lib.Seq.{get_or-set_same}
use Rattle.words.specs.Pool.{log_at, nodes_at, commit_at, pairs_most}
use Rattle.words.specs.declared.event.Event.TheVariants.{Fence as fence}
use Rattle.words.specs.Event.{at, run}
use Rattle.words.specs.Blocks.{Pair, stores, stored, replay}
use Rattle.words.proofs.Events.{run_append, length_run, run_off}
use Rattle.words.proofs.Blocks.{Addressed, Off, stores_once, run_stored, run_replay}
use Rattle.change.specs.Plan.{Plan, new_nodes, log_written, log_committed, log_replayed}
use Rattle.change.specs.Plan.{log_closed, log_finished, log_events, plan_events}
use Rattle.change.proofs.Pairs.{Within, Between, Stands, Apart, off_within, stores_stand, stands_after}
use Rattle.change.proofs.Goes.{joined, node_pairs, go_stores, log_goes, plan_goes}

stores_append : (a b : List Pair) → stores (a ++ b) ≡ stores a ++ stores b
stores_append [] b = refl
stores_append (p ∷ a) b = rw (stores_append a b)

-- the new nodes are stored one after the other
nodes_run : (m : List ℕ) (ns : List (List Pair)) → run m (new_nodes ns) ≡ run m (stores (joined ns))
unfolding new_nodes
nodes_run m [] = refl
nodes_run m (n ∷ ns) =
    let ms : List Pair = joined ns in
    run_append m (stored n) (new_nodes ns) ∙ nodes_run (run m (stored n)) ns
    ∙ ap (λ (x : List ℕ). run x (stores ms)) (run_stored m n) ∙ sym (run_append m (stores n) (stores ms))
    ∙ ap (run m) (sym (stores_append n ms))

module _ (m : List ℕ) (p : Plan) (few : length p.pairs ≤ pairs_most) where
  abbrev ps : List Pair
  ps = p.pairs

  abbrev committed : List ℕ
  committed = run (run (run m (new_nodes p.nodes)) (log_written ps)) (log_committed ps)

  plan_run : run m (plan_events p) ≡ set (run committed (stores ps)) commit_at 0
  unfolding plan_events log_events log_finished log_replayed
  plan_run =
      run_append m (new_nodes p.nodes) (log_events ps)
      ∙ run_append (run m (new_nodes p.nodes)) (log_written ps) (log_committed ps ++ log_finished ps)
      ∙ run_append (run (run m (new_nodes p.nodes)) (log_written ps)) (log_committed ps) (log_finished ps)
      ∙ run_append committed (replay ps ++ (fence ∷ [])) log_closed
      ∙ ap (λ (x : List ℕ). run x log_closed) (run_append committed (replay ps) (fence ∷ []) ∙ run_replay committed ps)

  long : length (run committed (stores ps)) ≡ length m
  long =
      length_run committed (stores ps) ∙ length_run (run (run m (new_nodes p.nodes)) (log_written ps)) (log_committed ps)
      ∙ length_run (run m (new_nodes p.nodes)) (log_written ps) ∙ length_run m (new_nodes p.nodes)

  -- a word that the plan does not store to
  pub plan_off : (w : ℕ) → Off (node_pairs p) w → Off p.pairs w → ¬ Between log_at nodes_at w → at (run m (plan_events p)) w ≡ at m w
  plan_off w n o l =
      run_off m (plan_events p) w (λ s.
      go_stores (λ x. x ≡ w → ⊥) (plan_events p) w
      (plan_goes (λ x. x ≡ w → ⊥) p few (off_within w (node_pairs p) n) (off_within w p.pairs o) (λ x b e. l (rw e at b))) s refl)

  -- the commit word is cleared
  pub plan_clean : commit_at < length m → at (run m (plan_events p)) commit_at ≡ 0
  plan_clean h = ap (λ (x : List ℕ). at x commit_at) plan_run ∙ get_or-set_same (run committed (stores ps)) commit_at 0 0 (rw long h)

  pub pairs_stand : Apart p.pairs → Within (λ w. w < length m) p.pairs → Off p.pairs commit_at
      → Stands (run m (plan_events p)) p.pairs
  pairs_stand a i o =
      rw plan_run (stands_after ps (run committed (stores ps)) log_closed
      (λ w h s. let e : commit_at ≡ w = (stores_once w commit_at 0).0 s in o (rw (← e) at h))
      (stores_stand ps committed a (rw (sym (length_run committed (stores ps)) ∙ long) i)))

  pub nodes_stand : Apart (node_pairs p) → Within (λ w. w < length m) (node_pairs p)
      → ((w : ℕ) → Addressed w (node_pairs p) → Off p.pairs w × ¬ Between log_at nodes_at w)
      → Stands (run m (plan_events p)) (node_pairs p)
  unfolding plan_events
  nodes_stand a i f =
      rw run_append (stands_after (node_pairs p) (run m (new_nodes p.nodes)) (log_events ps)
      (λ w h s. go_stores (λ x. x ≡ w → ⊥) (log_events ps) w
      (log_goes (λ x. x ≡ w → ⊥) ps few (off_within w ps (f w h).0) (λ x b e. (f w h).1 (rw e at b))) s refl)
      (rw (nodes_run m p.nodes) (stores_stand (node_pairs p) m a i)))
