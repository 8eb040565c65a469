-- How many bytes are still unmarked among the first n: each mark takes one away.
use Prim.Native.Nat.{ℕ, zero, suc, ◌+◌, ◌≤◌, ◌<◌}
use mathlib.Core.Path.{◌≡◌, ◌∙◌}
use mathlib.Core.List.{List, [], ◌∷◌}
use native.Mathlib.Omega.{arith}
use lib.Dec.{eqb}
use lib.ListN.{length, get_or, take, set}
use lib.Seq.{length-take-le, take-set-lt, get_or-take}
use Rattle.words.proofs.Tests.{at_most_one}
use Rattle.tree.specs.Lists.{occ}

pub unmarked_most : (n : ℕ) (l : List ℕ) → occ 0 (take n l) ≤ n
unmarked_most zero l = omega arith
unmarked_most (suc n) [] = omega arith
unmarked_most (suc n) (x ∷ l) = omega (arith, at_most_one (eqb 0 x), unmarked_most n l)

one_less : (l : List ℕ) (i : ℕ) → i < length l → get_or l i 0 ≡ 0 → occ 0 (set l i 1) + 1 ≡ occ 0 l
one_less [] i h e = absurd (omega arith)
one_less (x ∷ l) zero h e = rw e (omega arith)
one_less (x ∷ l) (suc i) h e = omega (arith, one_less l i (omega arith) e)

pub unmarked_less : (n : ℕ) (l : List ℕ) (i : ℕ) → i < n → n ≤ length l → get_or l i 0 ≡ 0
    → occ 0 (take n (set l i 1)) + 1 ≡ occ 0 (take n l)
unmarked_less n l i h long e =
    rw (take-set-lt n l i 1 h) (one_less (take n l) i (rw (length-take-le n l long) h) (get_or-take n l i 0 h ∙ e))
