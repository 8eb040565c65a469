-- Document 01, "Words and counts": the children of a node and what each covers.
use Rattle.std.specs.Prelude.{ℕ, List, [], ◌∷◌, Bool, ltb, if◌then◌else◌}
use Rattle.node.specs.View.{Record, View, good, no_end}
use Rattle.tree.specs.Header.{root_of}

-- a child's number and its cover, the keys in [from, upto)
pub record Kid : Type 0 where
  pub number : ℕ
  pub from : ℕ
  pub upto : ℕ

-- child k, which covers [lo, hi)
abbrev pub kid : ℕ → ℕ → ℕ → Kid
kid k lo hi = record { number = k; from = lo; upto = hi }

-- "A child covers keys from its key up to the next one; the leftmost child covers those below the smallest key", all cut with the
-- cover [lo, hi) of the node: the leftmost child inherits its lower end, the last child its upper end
abbrev pub kids_from : ℕ → ℕ → ℕ → List Record → List Kid
kids_from leftmost lo hi [] = kid leftmost lo hi ∷ []
kids_from leftmost lo hi (r ∷ rs) = kid leftmost lo r.0 ∷ kids_from r.1 r.0 hi rs

-- the children of node c, which says u
abbrev pub kids : Kid → View → List Kid
kids c u = kids_from u.link c.from c.upto u.records

-- the one of these children that covers a key
unfoldable pub pick_from : ℕ → ℕ → ℕ → ℕ → List Record → Kid
pick_from key leftmost lo hi [] = kid leftmost lo hi
pick_from key leftmost lo hi (r ∷ rs) =
    let further = pick_from key r.1 r.0 hi rs in
    if ltb key r.0 then kid leftmost lo r.0 else further

-- the child of node c, which says u, that covers a key
abbrev pub pick : ℕ → Kid → View → Kid
pick key c u = pick_from key u.link c.from c.upto u.records

-- the root covers every key: it has no lower and no upper end
abbrev pub root_kid : List ℕ → Kid
root_kid m = kid (root_of m) 0 no_end

-- the least entries of a leaf; of an inner node, "at least 1 if inner"; and "inner nodes but the root have at least 3 entries"
abbrev pub leaf_least : ℕ
leaf_least = 0

abbrev pub inner_least : ℕ
inner_least = 1

abbrev pub below_root_least : ℕ
below_root_least = 3

-- a node that says u is sound, has the least entries, and keeps within its cover
abbrev pub fits : ℕ → Kid → View → Bool
fits least c u = good least c.from c.upto u
