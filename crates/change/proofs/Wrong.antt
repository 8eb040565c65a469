-- Errors of 01 that look right, each with the cut that shows it.
use Prim.Native.Nat.{ℕ}
use mathlib.Core.Path.{◌≡◌}
use mathlib.Core.List.{List}
use mathlib.Core.Bool.{Bool, ◌&&◌}
use lib.ListN.{take}
use lib.Dec.{T, eqb}
use borrow.Author.Tests.{eqb-true}
use Rattle.words.specs.Loss.{Cut}
use Rattle.words.proofs.Tests.{both}
use Rattle.words.proofs.AllCuts.{cuts, any, some_cut}
use Rattle.tree.specs.Header.{used_of, root_of}
use Rattle.change.specs.Sums.{seven, splitting}
use Rattle.change.proofs.Opened.{opened}

-- "Recover tests root against used before replaying: a cut in (d) can leave them apart." The put of 80 into the full leaf of seven, cut
-- after 41 of its 47 events: root 3 has reached the module, used is still 1
apart : List ℕ → Bool
apart m = eqb (root_of m) 3 && eqb (used_of m) 1

found : T (any apart (cuts (seven 3) (take 41 (splitting 80))))
unfolding opened cuts any apart
found = tt

pub root_past_used : (m : List ℕ) × Cut (seven 3) (take 41 (splitting 80)) m × (root_of m ≡ 3) × (used_of m ≡ 1)
unfolding apart
root_past_used =
    let x = some_cut apart (seven 3) (take 41 (splitting 80)) found in
    let h = both {a = eqb (root_of x.0) 3} {b = eqb (used_of x.0) 1} x.2 in
    (x.0, x.1, eqb-true _ _ h.0, eqb-true _ _ h.1)
