-- Document 01, "Words and counts": "A pool is well formed when ..". The tree is read from what its nodes say, `U`.
use Rattle.std.specs.Prelude.{ℕ, zero, suc, ◌≤◌, ◌≡◌, List, [], ◌∷◌, true}
use Rattle.node.specs.View.{View, view, no_end}
use Rattle.tree.specs.Header.{used_of, root_of, commit_of, form_agrees, counts_agree}
use Rattle.tree.specs.Kids.{Kid, kid, kids, fits, leaf_least, inner_least, below_root_least}
use Rattle.tree.specs.Path.{levels_above}
use Rattle.tree.specs.Lists.{gather, Each, occ}

-- what each node says
abbrev pub Views : Type 0
Views = ℕ → View

-- the children of a node, by what it says
abbrev pub kids_of : Views → Kid → List Kid
kids_of U c = kids c (U c.number)

-- "all nodes are sound, inner nodes but the root have at least 3 entries, keys keep within their covers": the tree below c, whose
-- leaves are all h levels lower, and which has the least entries itself
abbrev pub AllFit : Views → ℕ → ℕ → Kid → Type 0
AllFit U least zero c = fits leaf_least c (U c.number) ≡ true
AllFit U least (suc h) c = (fits least c (U c.number) ≡ true) × Each (AllFit U below_root_least h) (kids_of U c)

-- the numbers of its nodes
abbrev pub nums : Views → ℕ → Kid → List ℕ
nums U zero c = c.number ∷ []
nums U (suc h) c = c.number ∷ gather (nums U h) (kids_of U c)

-- "the leaves left to right", by their numbers
abbrev pub leaves : Views → ℕ → Kid → List ℕ
leaves U zero c = c.number ∷ []
leaves U (suc h) c = gather (leaves U h) (kids_of U c)

-- the first of a list of leaves, or else z
abbrev pub next : List ℕ → ℕ → ℕ
next [] z = z
next (k ∷ ks) z = k

-- "linked by word 1": each leaf has the next one there, the last has z
abbrev pub Linked : Views → List ℕ → ℕ → Type 0
Linked U [] z = Unit {0}
Linked U (k ∷ ks) z = ((U k).link ≡ next ks z) × Linked U ks z

-- a well-formed tree of h levels above its leaves in the nodes 1 to used
pub record Whole (U : Views) (used h root : ℕ) : Type 0 where
  pub fit : AllFit U inner_least h (kid root 0 no_end)
  -- "the leaves left to right are linked by word 1 and the last has 0"
  pub linked : Linked U (leaves U h (kid root 0 no_end)) 0
  -- "each number 1 to used occurs exactly once", and the tree has no other number
  pub once : (k : ℕ) → 1 ≤ k → k ≤ used → occ k (nums U h (kid root 0 no_end)) ≡ 1
  pub only : (k : ℕ) → 1 ≤ occ k (nums U h (kid root 0 no_end)) → (1 ≤ k) × (k ≤ used)

-- "A pool is well formed when the commit word is 0, the header agrees, .."
pub record WellFormed (m : List ℕ) : Type 0 where
  pub clean : commit_of m ≡ 0
  pub form : form_agrees m ≡ true
  pub counts : counts_agree m ≡ true
  pub whole : Whole (view m) (used_of m) (levels_above m) (root_of m)
