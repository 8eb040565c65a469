-- Eight full levels, one above the other: refusal 5 comes before the eight-level case of 4, as 01's order of refusals says.
use Prim.Native.Nat.{ℕ}
use mathlib.Core.Path.{◌≡◌}
use mathlib.Core.Bool.{◌&&◌}
use lib.Dec.{T, eqb, eqb→eq}
use Rattle.words.specs.Pool.{list_words}
use Rattle.words.proofs.Tests.{both_hold}
use Rattle.change.specs.Answers.{outcome_says}
use Rattle.change.specs.Put.{put}
use Rattle.change.proofs.Opened.{opened}
use Rattle.change.proofs.Worst.{tower}

-- the number of the refusal of a put of a key below all
unfoldable pub refusal : ℕ → ℕ
refusal capacity = (outcome_says (put list_words (tower capacity 1 8) 5 5).answer).1

tests : T (eqb (refusal 16) 5 && eqb (refusal 17) 4)
unfolding opened tower refusal
tests = tt

-- nine nodes are needed: with eight left it is refused for room, with nine for its eight full levels
pub eight_left : refusal 16 ≡ 5
eight_left = eqb→eq (refusal 16) 5 (both_hold (eqb (refusal 16) 5) (eqb (refusal 17) 4) tests).0

pub nine_left : refusal 17 ≡ 4
nine_left = eqb→eq (refusal 17) 4 (both_hold (eqb (refusal 16) 5) (eqb (refusal 17) 4) tests).1
