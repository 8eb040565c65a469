-- The sums of document 01 agree, those of cuts too: a cut may leave each memory of a finite list, and no other.
use Prim.Native.Nat.{ℕ}
use mathlib.Core.Path.{◌≡◌, refl, ap, ap₂}
use mathlib.Core.Logic.{◌⊎◌, inl, inr}
use mathlib.Core.List.{List, [], ◌∷◌, ◌++◌}
use mathlib.Core.Bool.{Bool, true, false, ◌&&◌, ◌||◌}
use lib.ListN.{length, take}
use lib.Dec.{T, eqb, eqb→eq}
use Rattle.words.proofs.Tests.{both_hold}
use Rattle.words.proofs.AllCuts.{cuts, every, every_cut, any, some_cut}
use Rattle.node.specs.View.{Record}
use Rattle.change.specs.Sums.{Left, Row, cut_after, Agrees, before, after, recovered, less_30, putting_35, Leaves, AllAgree, Sums}
use Rattle.change.specs.Sums.{leaf_rows, split_rows, room_rows, refusal_rows, cut_rows, rows}
use Rattle.change.proofs.Opened.{opened}
use Rattle.change.proofs.Rows.{tests, all_agree}

leaf_tests : T (tests leaf_rows)
unfolding opened leaf_rows tests
leaf_tests = tt

split_tests : T (tests split_rows)
unfolding opened split_rows tests
split_tests = tt

room_tests : T (tests room_rows)
unfolding opened room_rows tests
room_tests = tt

refusal_tests : T (tests refusal_rows)
unfolding opened refusal_rows tests
refusal_tests = tt

-- the records that a memory holds once it is recovered, as a test
same_records : List Record → List Record → Bool
same_records [] [] = true
same_records [] (s ∷ ss) = false
same_records (r ∷ rs) [] = false
same_records (r ∷ rs) (s ∷ ss) = eqb r.0 s.0 && eqb r.1 s.1 && same_records rs ss

same_records_are : (rs ss : List Record) → T (same_records rs ss) → rs ≡ ss
unfolding same_records
same_records_are [] [] t = refl
same_records_are [] (s ∷ ss) t = absurd t
same_records_are (r ∷ rs) [] t = absurd t
same_records_are (r ∷ rs) (s ∷ ss) t =
    let h = both_hold (eqb r.0 s.0 && eqb r.1 s.1) (same_records rs ss) t in
    let k = both_hold (eqb r.0 s.0) (eqb r.1 s.1) h.0 in
    let e : r ≡ s = ap₂ (λ (a b : ℕ). (a, b)) (eqb→eq r.0 s.0 k.0) (eqb→eq r.1 s.1 k.1) in
    ap₂ (λ (x : Record) (xs : List Record). x ∷ xs) e (same_records_are rs ss h.1)

left : List Record → List ℕ → Bool
left rs m = same_records (recovered m) rs

left_is : (rs : List Record) (m : List ℕ) → left rs m ≡ true → recovered m ≡ rs
unfolding left
left_is rs m e = same_records_are (recovered m) rs (rw e tt)

left_either : List ℕ → Bool
left_either m = left before m || left after m

left_either_is : (m : List ℕ) → left_either m ≡ true → (recovered m ≡ before) ⊎ (recovered m ≡ after)
unfolding left_either
left_either_is m e = go (left before m) refl
  where
    go : (b : Bool) → left before m ≡ b → (recovered m ≡ before) ⊎ (recovered m ≡ after)
    go true t = inl (left_is before m t)
    go false t = inr (left_is after m (rw t at e))

leaves : (n : ℕ) (rs : List Record) → T (any (left rs) (cuts less_30 (take n putting_35))) → Leaves n rs
leaves n rs t =
    let x = some_cut (left rs) less_30 (take n putting_35) t in
    (x.0, x.1, left_is rs x.0 x.2)

either : (n : ℕ) → T (every left_either (cuts less_30 (take n putting_35)))
    → T (any (left before) (cuts less_30 (take n putting_35))) → T (any (left after) (cuts less_30 (take n putting_35)))
    → Agrees (cut_after n Left.either)
either n t b a =
    ((λ m c. left_either_is m (every_cut left_either less_30 (take n putting_35) t c)), leaves n before b, leaves n after a)

cut_4 : T (every (left before) (cuts less_30 (take 4 putting_35)))
unfolding opened cuts left same_records
cut_4 = tt

cut_5 : T (every left_either (cuts less_30 (take 5 putting_35)))
unfolding opened cuts left_either left same_records
cut_5 = tt

cut_5_before : T (any (left before) (cuts less_30 (take 5 putting_35)))
unfolding opened cuts left same_records any
cut_5_before = tt

cut_5_after : T (any (left after) (cuts less_30 (take 5 putting_35)))
unfolding opened cuts left same_records any
cut_5_after = tt

cut_6 : T (every left_either (cuts less_30 (take 6 putting_35)))
unfolding opened cuts left_either left same_records
cut_6 = tt

cut_6_before : T (any (left before) (cuts less_30 (take 6 putting_35)))
unfolding opened cuts left same_records any
cut_6_before = tt

cut_6_after : T (any (left after) (cuts less_30 (take 6 putting_35)))
unfolding opened cuts left same_records any
cut_6_after = tt

cut_7 : T (every (left after) (cuts less_30 (take 7 putting_35)))
unfolding opened cuts left same_records
cut_7 = tt

count : T (eqb 7 (length putting_35))
unfolding opened
count = tt

cut_rows_agree : AllAgree cut_rows
unfolding cut_rows
cut_rows_agree = (
  ap (λ (n : ℕ). n ∷ []) (eqb→eq 7 (length putting_35) count),
  (
    (λ m c. left_is before m (every_cut (left before) less_30 (take 4 putting_35) cut_4 c)),
    (
      either 5 cut_5 cut_5_before cut_5_after,
      (
        either 6 cut_6 cut_6_before cut_6_after,
        ((λ m c. left_is after m (every_cut (left after) less_30 (take 7 putting_35) cut_7 c)), tt),
      ),
    ),
  ),
)

append : (a b : List Row) → AllAgree a → AllAgree b → AllAgree (a ++ b)
append [] b p q = q
append (r ∷ a) b p q = (p.0, append a b p.1 q)

pub sums : Sums
unfolding rows
sums =
    append leaf_rows _ (all_agree leaf_rows leaf_tests) (append split_rows _ (all_agree split_rows split_tests)
    (append room_rows _ (all_agree room_rows room_tests) (append refusal_rows _ (all_agree refusal_rows refusal_tests) cut_rows_agree)))
