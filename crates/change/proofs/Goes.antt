-- Where events go: stores to words of one kind, and flushes of the lines of such words.
use Prim.Native.Nat.{ℕ, ◌+◌, ◌*◌, ◌≤◌, ◌<◌}
use mathlib.Core.Path.{◌≡◌, refl}
use mathlib.Core.Logic.{inl, inr}
use mathlib.Core.List.{List, [], ◌∷◌, ◌++◌}
use mathlib.Core.Bool.{Bool, true, false}
use native.Mathlib.Omega.{arith}
use lib.ListN.{length}
use lib.Dec.{eqb}
use borrow.Author.Tests.{lt-ltb}
use Rattle.std.specs.Prelude.{if◌then◌else◌}
use Rattle.words.specs.Pool.{line, line_words, log_at, nodes_at, commit_at, pairs_at, pairs_most}
use Rattle.words.specs.declared.event.Event.{Event}
use Rattle.words.specs.declared.event.Event.TheVariants.{Store as store, Flush as flush, Fence as fence}
use Rattle.words.specs.Event.{top_byte}
use Rattle.words.specs.Blocks.{Pair, once, stores, flushes, lines, stored, replay}
use Rattle.words.proofs.Events.{Stores}
use Rattle.words.proofs.Listed.{Numbered, Inside}
use Rattle.tree.specs.Lists.{gather, Each}
use Rattle.tree.proofs.Lists.{each_append, each_left, each_right}
use Rattle.change.specs.Plan.{Plan, new_nodes, log_words, log_written, log_committed, log_replayed}
use Rattle.change.specs.Plan.{log_closed, log_finished, log_events, plan_events}
use Rattle.change.proofs.Pairs.{Within, Between, between_more, within_weaken}

-- a store to a word of P, a flush of the line of one, or a fence
abbrev pub Goes : (ℕ → Type 0) → Event → Type 0
Goes P (store w v) = P w
Goes P (flush l) = (w : ℕ) × P w × (l ≡ line w)
Goes P fence = Unit {0}

-- so each of some events
abbrev pub AllGo : (ℕ → Type 0) → List Event → Type 0
AllGo P es = Each (Goes P) es

-- the words of all new nodes
abbrev pub joined : List (List Pair) → List Pair
joined ns = gather (λ (n : List Pair). n) ns

abbrev pub node_pairs : Plan → List Pair
node_pairs p = joined p.nodes

-- the log's words
pub log_in : (w : ℕ) (ps : List Pair) → Within (Between w (w + 2 * length ps)) (log_words w ps)
unfolding log_words
log_in w [] = tt
log_in w (p ∷ ps) = (
  (omega arith, omega arith),
  ((omega arith, omega arith), between_more (log_words (w + 2) ps) (omega arith) (omega arith) (log_in (w + 2) ps)),
)

-- what the runs of events come to
module _ (P : ℕ → Type 0) where
  pub go_stores : (es : List Event) (w : ℕ) → AllGo P es → Stores w es → P w
  go_stores [] w g s = absurd s
  go_stores (store a v ∷ es) w g (inl e) = rw e at g.0
  go_stores (flush l ∷ es) w g (inl e) = absurd e
  go_stores (fence ∷ es) w g (inl e) = absurd e
  go_stores (e ∷ es) w g (inr s) = go_stores es w g.1 s

  pub go_weaken : {Q : ℕ → Type 0} (es : List Event) → ((w : ℕ) → P w → Q w) → AllGo P es → AllGo Q es
  go_weaken [] f g = tt
  go_weaken (store a v ∷ es) f g = (f a g.0, go_weaken es f g.1)
  go_weaken (flush l ∷ es) f g = ((g.0.0, f g.0.0 g.0.1, g.0.2), go_weaken es f g.1)
  go_weaken (fence ∷ es) f g = (tt, go_weaken es f g.1)

  pub once_goes : (w v : ℕ) → P w → AllGo P (once w v)
  once_goes w v p = (p, ((w, p, refl), (tt, tt)))

  stores_go : (ps : List Pair) → Within P ps → AllGo P (stores ps)
  stores_go [] h = tt
  stores_go (p ∷ ps) h = (h.0, stores_go ps h.1)

  lines_go : (ps : List Pair) → Within P ps → AllGo P (flushes (lines ps))
  unfolding lines
  lines_go [] h = tt
  lines_go (p ∷ []) h = ((p.0, h.0, refl), tt)
  lines_go (p ∷ (q ∷ ps)) h = go (lines_go (q ∷ ps) h.1) (eqb (line p.0) (line q.0))
    where
      go : AllGo P (flushes (lines (q ∷ ps))) → (b : Bool)
          → AllGo P (flushes (if b then lines (q ∷ ps) else (line p.0 ∷ lines (q ∷ ps))))
      go g true = g
      go g false = ((p.0, h.0, refl), g)

  pub stored_goes : (ps : List Pair) → Within P ps → AllGo P (stored ps)
  unfolding stored
  stored_goes ps h = each_append (Goes P) (stores ps) (flushes (lines ps)) (stores_go ps h) (lines_go ps h)

  replay_goes : (ps : List Pair) → Within P ps → AllGo P (replay ps)
  unfolding replay
  replay_goes [] h = tt
  replay_goes (p ∷ ps) h = (h.0, ((p.0, h.0, refl), replay_goes ps h.1))

  -- the events of a plan
  pub nodes_go : (ns : List (List Pair)) → Within P (joined ns) → AllGo P (new_nodes ns)
  unfolding new_nodes
  nodes_go [] h = tt
  nodes_go (n ∷ ns) h =
      let ms : List Pair = joined ns in
      each_append (Goes P) (stored n) (new_nodes ns) (stored_goes n (each_left (λ (p : Pair). P p.0) n ms h))
      (nodes_go ns (each_right (λ (p : Pair). P p.0) n ms h))

  module _ (ps : List Pair) (few : length ps ≤ pairs_most) (h : Within P ps) (log : (w : ℕ) → Between log_at nodes_at w → P w) where
    pub log_goes : AllGo P (log_events ps)
    unfolding log_events log_written log_finished log_replayed
    log_goes =
        each_append (Goes P) (log_written ps) (log_committed ps ++ log_finished ps) written
        (each_append (Goes P) (log_committed ps) (log_finished ps) (once_goes commit_at (length ps) commit) finished)
      where
        commit : P commit_at
        commit = log commit_at (omega arith, omega arith)

        within : Within P (log_words pairs_at ps)
        within = within_weaken (Between log_at nodes_at) (log_words pairs_at ps) log
            (between_more (log_words pairs_at ps) (omega arith) (omega arith) (log_in pairs_at ps))

        written : AllGo P (log_written ps)
        written = each_append (Goes P) (stored (log_words pairs_at ps)) (fence ∷ []) (stored_goes (log_words pairs_at ps) within) (tt, tt)

        finished : AllGo P (log_finished ps)
        finished = each_append (Goes P) (log_replayed ps) log_closed
            (each_append (Goes P) (replay ps) (fence ∷ []) (replay_goes ps h) (tt, tt)) (once_goes commit_at 0 commit)

  pub plan_goes : (p : Plan) → length p.pairs ≤ pairs_most → Within P (node_pairs p) → Within P p.pairs
      → ((w : ℕ) → Between log_at nodes_at w → P w) → AllGo P (plan_events p)
  unfolding plan_events
  plan_goes p few n h log =
      each_append (Goes P) (new_nodes p.nodes) (log_events p.pairs) (nodes_go p.nodes n) (log_goes p.pairs few h log)

-- events that go below t lie inside a slice of t words, and their numbers fit
module _ (t : ℕ) where
  pub go_inside : (m : List ℕ) (es : List Event) → t ≤ length m → AllGo (λ w. w < t) es → Inside m es
  go_inside m [] h g = tt
  go_inside m (store a v ∷ es) h g = (lt-ltb a (length m) (omega (arith, g.0)), go_inside m es h g.1)
  go_inside m (flush l ∷ es) h g = (lt-ltb (l * line_words) (length m) (omega (arith, g.0)), go_inside m es h g.1)
  go_inside m (fence ∷ es) h g = (refl, go_inside m es h g.1)

  pub go_numbered : (es : List Event) → t ≤ top_byte → AllGo (λ w. w < t) es → Numbered es
  go_numbered [] h g = tt
  go_numbered (store a v ∷ es) h g = (omega (arith, g.0), go_numbered es h g.1)
  go_numbered (flush l ∷ es) h g = (omega (arith, g.0), go_numbered es h g.1)
  go_numbered (fence ∷ es) h g = (omega arith, go_numbered es h g.1)
