-- Pairs noted in an array, one after the other.
use Prim.Native.Nat.{ℕ, suc, ◌+◌, ◌≤◌, ◌<◌}
use mathlib.Core.Path.{◌≡◌, refl, ap, ◌∙◌}
use mathlib.Core.List.{List, [], ◌∷◌, ◌++◌, append_assoc}
use native.Mathlib.Omega.{arith}
use lib.ListN.{length, take, set}
use Rattle.std.proofs.lemmas.List.{take_more_set, length-take-le}
use Rattle.words.specs.Event.{top_byte}
use Rattle.words.specs.Blocks.{Pair}
use Rattle.tree.proofs.Lists.{each_append}
use Rattle.split.specs.inner.Pairs.{Noted, pairs_of, Near}

pub length_pairs : (qs : List (List ℕ)) → length (pairs_of qs) ≡ length qs
length_pairs [] = refl
length_pairs (q ∷ qs) = ap suc (length_pairs qs)

-- so many are noted as the pairs that are seen
pub counted : (qs : List (List ℕ)) (n : ℕ) {ps : List Pair} → n ≤ length qs → pairs_of (take n qs) ≡ ps
    → (n ≡ length ps) × (length (take n qs) ≡ n)
counted qs n few e =
    let long = length-take-le n qs few in
    (omega (arith, ap length e, length_pairs (take n qs), long), long)

-- pairs noted twice, one after the other
pub noted_append : {ps qs g h j : List Pair} → Noted ps g h → Noted qs h j → Noted (ps ++ qs) g j
noted_append a b = record { pairs = b.pairs ∙ rw (a.pairs, append_assoc) }

pairs_append : (qs rs : List (List ℕ)) → pairs_of (qs ++ rs) ≡ pairs_of qs ++ pairs_of rs
pairs_append [] rs = refl
pairs_append (q ∷ qs) rs = rw (pairs_append qs rs) refl

-- one more, after those that are noted
module _ (qs : List (List ℕ)) (n a v : ℕ) (room : n < length qs) where
  pub noted : pairs_of (take (n + 1) (set qs n (a ∷ v ∷ []))) ≡ pairs_of (take n qs) ++ ((a, v) ∷ [])
  noted = rw (take_more_set qs n (a ∷ v ∷ []) room, pairs_append (take n qs) ((a ∷ v ∷ []) ∷ [])) refl

  pub noted_near : a < top_byte → Near (pairs_of (take n qs)) → Near (pairs_of (take (n + 1) (set qs n (a ∷ v ∷ []))))
  noted_near low near = rw noted (each_append _ (pairs_of (take n qs)) ((a, v) ∷ []) near (low, tt))
