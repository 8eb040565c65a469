-- Rows without cuts agree: each is a test that computes.
use Prim.Native.Nat.{ℕ}
use mathlib.Core.Path.{◌≡◌, refl, ap, ap₂}
use mathlib.Core.List.{List, [], ◌∷◌}
use mathlib.Core.Bool.{Bool, true, false, ◌&&◌}
use lib.ListN.{drop}
use lib.Dec.{T, eqb, eqb→eq}
use Rattle.words.specs.Lists.{same}
use Rattle.words.specs.Event.{at}
use Rattle.words.specs.Answers.{Said}
use Rattle.words.proofs.Tests.{both_hold}
use Rattle.change.specs.Sums.{Row, numbers, says, cut_after, Agrees, AllAgree}

-- what an answer says, as numbers
abbrev said : Said → List ℕ
said s = s.0 ∷ s.1 ∷ s.2

-- rows without cuts as tests, which compute
unfoldable pub test : Row → Bool
unfolding same
test (numbers a b) = same a b
test (says a b) = same (said a) (said b)
test (cut_after n l) = false

unfoldable pub tests : List Row → Bool
unfolding test
tests [] = true
tests (r ∷ rs) = test r && tests rs

-- and the rows agree where the tests hold
pub same_is : (a b : List ℕ) → T (same a b) → a ≡ b
unfolding same
same_is [] [] t = refl
same_is [] (y ∷ ys) t = absurd t
same_is (x ∷ xs) [] t = absurd t
same_is (x ∷ xs) (y ∷ ys) t =
    let h = both_hold (eqb x y) (same xs ys) t in
    ap₂ (λ (n : ℕ) (l : List ℕ). n ∷ l) (eqb→eq x y h.0) (same_is xs ys h.1)

says_is : (a b : Said) → T (same (said a) (said b)) → a ≡ b
says_is a b t = ap (λ (l : List ℕ). (at l 0, at l 1, drop 2 l)) (same_is (said a) (said b) t)

agrees : (r : Row) → T (test r) → Agrees r
unfolding test
agrees (numbers a b) t = same_is a b t
agrees (says a b) t = says_is a b t
agrees (cut_after n l) t = absurd t

pub all_agree : (rs : List Row) → T (tests rs) → AllAgree rs
unfolding tests
all_agree [] t = tt
all_agree (r ∷ rs) t = let h = both_hold (test r) (tests rs) t in (agrees r h.0, all_agree rs h.1)
