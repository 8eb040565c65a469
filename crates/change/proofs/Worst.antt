-- Each number of the table is reached: by a put whose key goes leftmost all the way down full nodes, so that each new record stays.
use Prim.Native.Nat.{ℕ, ◌+◌, ◌-◌, ◌*◌, ◌≤◌, ◌<◌}
use mathlib.Core.Path.{◌≡◌, refl, sym, ap, ◌∙◌}
use mathlib.Core.List.{List, [], ◌∷◌, ◌++◌, map}
use mathlib.Core.Bool.{Bool, true, false, ◌&&◌}
use native.Mathlib.Omega.{arith}
use lib.ListN.{length}
use lib.Dec.{T}
use lib.Ieee.Bits.{is_true}
use Rattle.std.specs.Prelude.{Ok}
use Rattle.words.specs.Lists.{count_from}
use Rattle.words.specs.Pool.{used_at, root_at, height_at, list_words}
use Rattle.words.specs.Event.{at, run}
use Rattle.words.specs.Blocks.{Pair, stores}
use Rattle.words.proofs.Tests.{both_hold}
use Rattle.words.proofs.Lists.{length_from, at_from}
use Rattle.node.specs.Lists.{all_below}
use Rattle.node.specs.View.{no_end}
use Rattle.node.proofs.Every.{every, every_at}
use Rattle.tree.specs.Lists.{gather}
use Rattle.tree.specs.Path.{Way, failed, leaf, way_to}
use Rattle.change.specs.declared.Outcome.{Outcome}
use Rattle.change.specs.declared.Outcome.TheVariants.{New}
use Rattle.change.specs.Gate.{Planned}
use Rattle.change.specs.Steps.{new_node}
use Rattle.change.specs.Put.{put}
use Rattle.change.specs.Calls.{put_answer}
use Rattle.change.specs.Answers.{outcome_says}
use Rattle.change.specs.Sums.{Row, numbers, says, fresh, AllAgree}
use Rattle.change.specs.Most.{most, split_levels, new_roots, Reached}
use Rattle.change.proofs.Answers.{outcome_told}
use Rattle.change.proofs.Opened.{opened}
use Rattle.change.proofs.Rows.{tests, all_agree}
use Rattle.change.proofs.Cases.{list_passes}

-- node k with n entries: node 1 is the leaf of 10, 20, ..; each other node has the node before it as its leftmost child, and higher
-- keys. The way down takes leftmost children alone, so that the other children may be any numbers
abbrev level : ℕ → ℕ → List Pair
level n k = new_node k (k - 1) (map (λ (i : ℕ). (10 * i, k - 1)) (count_from (7 * k - 6) n))

-- a pool of l full nodes one above the other, under a root of one entry where r is 0
unfoldable pub tower : ℕ → ℕ → ℕ → List ℕ
tower capacity r l =
    let top = l + 1 - r in
    let header : List Pair = (used_at, top) ∷ (root_at, top) ∷ (height_at, top) ∷ [] in
    run (fresh capacity) (stores (header ++ (gather (level 7) (count_from 1 l) ++ gather (level 1) (count_from (l + 1) (1 - r)))))

-- with as many nodes left as a split needs
abbrev memory : ℕ → ℕ → List ℕ
memory r l = tower (2 * l + 1) r l

-- the put of 5, which is below all keys
abbrev plan : ℕ → ℕ → Planned Outcome
plan r l = put list_words (memory r l) 5 5

-- the cell of the table, and that the put is not refused
abbrev rows : ℕ → ℕ → List ℕ → List Row
rows r l path =
    numbers (l ∷ r ∷ []) (split_levels (memory r l) path ∷ new_roots (memory r l) path ∷ [])
    ∷ numbers (most r l ∷ []) (length (plan r l).events ∷ [])
    ∷ says (outcome_says (Ok New)) (outcome_says (plan r l).answer)
    ∷ []

-- that it is so where the way down comes to a leaf, and that all words have 64 bits
meets : ℕ → ℕ → Way → Bool
meets r l (failed node) = false
meets r l (leaf k above) = all_below no_end (5 ∷ 5 ∷ memory r l) && tests (rows r l (k ∷ above))

test : ℕ → ℕ → Bool
test r l = meets r l (way_to (memory r l) 5)

-- all fourteen
cells : T (every (λ r. every (test r) (count_from 1 7)) (count_from 0 2))
unfolding opened every tests split_levels tower meets test
cells = tt

-- a test that passes at the n numbers from i on passes at each of them
each : (f : ℕ → Bool) (i n x : ℕ) → every f (count_from i n) ≡ true → i ≤ x → x < i + n → f x ≡ true
each f i n x t h k =
    let e : at (count_from i n) (x - i) ≡ x = at_from i n (x - i) (omega arith) ∙ omega arith in
    rw e at (every_at f (x - i) (count_from i n) t (omega (arith, length_from i n)))

-- a list that is long enough answers as one of 372 words does
answers : (r l : ℕ) → Ok New ≡ (plan r l).answer → most r l ≡ length (plan r l).events → (list : List ℕ) → list_words ≤ length list
    → put_answer (memory r l) list 5 5 ≡ Ok (record { outcome = New; events = most r l })
answers r l e c list h = rw (list_passes (length list) _ h, ← e, ← c)

passed : (r l : ℕ) (w : Way) → way_to (memory r l) 5 ≡ w → T (meets r l w) → Reached r l (most r l)
unfolding meets
passed r l (failed node) e t = absurd t
passed r l (leaf k above) e t =
    let h = both_hold (all_below no_end (5 ∷ 5 ∷ memory r l)) (tests (rows r l (k ∷ above))) t in
    let agree : AllAgree (rows r l (k ∷ above)) = all_agree (rows r l (k ∷ above)) h.1 in
    record {
      memory = memory r l;
      key = 5;
      value = 5;
      words = is_true _ h.0;
      node = k;
      above = above;
      way = e;
      levels = sym (ap (λ (xs : List ℕ). at xs 0) agree.0);
      roots = sym (ap (λ (xs : List ℕ). at xs 1) agree.0);
      call = answers r l (outcome_told (Ok New) (plan r l).answer agree.1.1.0) (ap (λ (xs : List ℕ). at xs 0) agree.1.0);
    }

pub reached : (r l : ℕ) → r ≤ 1 → 1 ≤ l → l ≤ 7 → Reached r l (most r l)
unfolding test
reached r l p q s =
    let row = each (λ r. every (test r) (count_from 1 7)) 0 2 r (is_true _ cells) (omega arith) (omega arith) in
    let cell = each (test r) 1 7 l row q (omega arith) in
    passed r l (way_to (memory r l) 5) refl (rw cell tt)
