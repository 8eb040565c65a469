-- Slips in looking at a node, each at a node where the contract asks for another answer than the slip gives.
use Prim.Native.Nat.{ℕ}
use mathlib.Core.Path.{◌≡◌, refl}
use mathlib.Core.List.{List, [], ◌∷◌, ◌++◌}
use mathlib.Core.Bool.{true, false}
use lib.ListN.{replicate}
use Rattle.words.specs.Pool.{nodes_at}
use Rattle.node.specs.Lists.{has, all_below, different, rising, covered, upto}
use Rattle.node.specs.Slot.{bytes, names, spot}
use Rattle.node.specs.View.{view, sound, good, no_end}

-- a memory whose node 1 has these words
abbrev with_node : List ℕ → List ℕ
with_node ws = replicate nodes_at 0 ++ ws

-- a full node is refused: it names all seven entries and is good
pub count_seven : good 0 0 no_end
    (view (with_node (0x0605040302010007 ∷ 0 ∷ 1 ∷ 0 ∷ 2 ∷ 0 ∷ 3 ∷ 0 ∷ 4 ∷ 0 ∷ 5 ∷ 0 ∷ 6 ∷ 0 ∷ 7 ∷ 0 ∷ [])) 1) ≡ true
unfolding has all_below different rising covered bytes names view sound good
count_seven = refl

-- entry 7 is taken for an entry
pub name_seven : good 0 0 no_end (view (with_node (0x0701 ∷ [])) 1) ≡ false
unfolding has all_below different rising covered bytes names view sound good
name_seven = refl

-- keys may be equal: entries 0 and 1 both have 5
pub keys_equal : good 0 0 no_end (view (with_node (0x010002 ∷ 0 ∷ 5 ∷ 0 ∷ 5 ∷ 0 ∷ [])) 1) ≡ false
unfolding has all_below different rising covered bytes names view sound good
keys_equal = refl

-- the cover has its upper end too: key 5 in [0, 5)
pub cover_closed : good 0 0 5 (view (with_node (0x0001 ∷ 0 ∷ 5 ∷ 0 ∷ [])) 1) ≡ false
unfolding has all_below different rising covered bytes names view sound good
cover_closed = refl

-- a key that a node has goes to the child left of it: one key is not above 5, so it is the child after that key
pub equal_key : upto 5 (5 ∷ 9 ∷ []) ≡ 1
unfolding upto
equal_key = refl

-- entry 0 is never given out
pub spot_from_one : spot [] ≡ 0
unfolding spot has
spot_from_one = refl
