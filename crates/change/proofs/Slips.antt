-- Slips in recovery and in a split, each at a small pool where the definition says or leaves something else.
use Prim.Native.Nat.{ℕ, ◌-◌}
use mathlib.Core.Path.{◌≡◌, refl}
use mathlib.Core.List.{List, [], ◌∷◌, ◌++◌}
use lib.ListN.{length}
use Rattle.words.specs.Kinds as k
use Rattle.words.specs.Pool.{commit_at, pairs_at, nodes_at, list_words}
use Rattle.words.specs.Event.{at, run}
use Rattle.words.specs.Blocks.{Pair, stores}
use Rattle.tree.specs.Header.{commit_of, height_of}
use Rattle.change.specs.Answers.{recovery_says}
use Rattle.change.specs.Plan.{log_words}
use Rattle.change.specs.Recover.{recover, recovery}
use Rattle.change.specs.Sums.{fresh, split_by}
use Rattle.change.proofs.Opened.{opened}

-- a fresh pool of one node whose log holds these pairs, and what recovery leaves of it
unfoldable pub logged : List Pair → List ℕ
logged ps = run (fresh 1) (stores (log_words pairs_at ps ++ ((commit_at, length ps) ∷ [])))

unfoldable pub replayed : List Pair → List ℕ
replayed ps = run (logged ps) (recovery (logged ps))

-- recovery takes a pair that is stored to word 71, the last of the log
pub address_71 : recovery_says (recover list_words (logged ((nodes_at - 1, 0) ∷ []))).answer ≡ (k.refused, 6, [])
unfolding opened logged
address_71 = refl

-- recovery replays the pairs in another order than logged: of two stores to a word the later one stays
pub replay_order : at (replayed ((nodes_at, 5) ∷ (nodes_at, 6) ∷ [])) nodes_at ≡ 6
unfolding opened logged replayed
replay_order = refl

-- recovery closes the log with another word than 0
pub recover_closes : commit_of (replayed ((nodes_at, 5) ∷ [])) ≡ 0
unfolding opened logged replayed
recover_closes = refl

-- a new root is as high as the old one
pub root_raised : height_of (split_by 80) ≡ 2
unfolding opened
root_raised = refl
