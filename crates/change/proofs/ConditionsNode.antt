-- A node's conditions in 01's table, place by place: they are what the tests of its names and keys tell.
use Prim.Native.Nat.{ℕ, zero, suc, ◌+◌, ◌*◌, ◌/◌, ◌%◌, ◌^◌, ◌≤◌, ◌<◌}
use mathlib.Core.Path.{◌≡◌, refl, sym, ◌∙◌, ap}
use mathlib.Core.List.{List, [], ◌∷◌}
use mathlib.Core.Bool.{Bool, not, ◌&&◌}
use native.Mathlib.Numerals.{add-one}
use native.Mathlib.Omega.{arith}
use lib.ListN.{length, get_or}
use lib.Dec.{ltb, leb, eqb}
use lib.Pow.{shr-shr}
use Rattle.words.specs.Event.{at}
use Rattle.words.proofs.Fails.{Fails, tells_by, fails_by, fails_equal, not_tells, tells_not, not_fails, tells_less, tells_most}
use Rattle.words.proofs.Tests.{Tells, is, tells_and}
use Rattle.node.specs.Lists.{has, all_below, different, rising, covered}
use Rattle.node.specs.Slot.{byte, names}
use Rattle.node.specs.View.{view, keys, sound, slot_at}
use Rattle.node.proofs.Digits.{bytes_at, byte_pow}
use Rattle.node.proofs.Every.{every, below_every, covered_every, has_every}
use Rattle.node.proofs.Slots.{length_names}
use Rattle.node.proofs.Views.{view_names, keys_many, key_at_place}
use Rattle.tree.specs.Kids.{leaf_least, inner_least}
use Rattle.change.specs.Conditions as w

-- "at least 1 if inner"
abbrev pub least : ℕ → ℕ
least zero = leaf_least
least (suc levels) = inner_least

-- in every place of a list
abbrev Places : (ℕ → Type 0) → List ℕ → Type 0
Places P xs = (i : ℕ) → i < length xs → P (get_or xs i 0)

tells_places : (P : ℕ → Type 0) (p : ℕ → Bool) → ((x : ℕ) → Tells (P x) (p x)) → (xs : List ℕ) → Tells (Places P xs) (every p xs)
unfolding every
tells_places P p t [] = is (λ i h. absurd (omega arith))
tells_places P p t (x ∷ xs) = tells_by to from (tells_and (t x) (tells_places P p t xs))
  where
    to : P x × Places P xs → Places P (x ∷ xs)
    to a zero h = a.0
    to a (suc i) h = a.1 i (omega arith)

    from : Places P (x ∷ xs) → P x × Places P xs
    from a = (a 0 (omega arith), λ i h. a (suc i) (omega arith))

tells_below : (b : ℕ) (xs : List ℕ) → Tells (Places (λ x. x < b) xs) (all_below b xs)
tells_below b xs = rw (below_every b xs) (tells_places (λ x. x < b) (λ x. ltb x b) (λ x. tells_less x b) xs)

tells_cover : (lo hi : ℕ) (xs : List ℕ) → Tells (Places (λ x. (lo ≤ x) × (x < hi)) xs) (covered lo hi xs)
tells_cover lo hi xs =
    rw (covered_every lo hi xs) (tells_places (λ x. (lo ≤ x) × (x < hi)) (λ x. leb lo x && ltb x hi)
    (λ x. tells_and (tells_most lo x) (tells_less x hi)) xs)

fails_has : (x : ℕ) (xs : List ℕ) → Fails (Places (λ y. ¬ (x ≡ y)) xs) (has x xs)
fails_has x xs =
    rw (has_every x xs) (not_fails (tells_places (λ y. ¬ (x ≡ y)) (λ y. not (eqb x y)) (λ y. not_tells (fails_equal x y)) xs))

abbrev Apart : List ℕ → Type 0
Apart xs = (i j : ℕ) → i < j → j < length xs → ¬ (get_or xs i 0 ≡ get_or xs j 0)

tells_different : (xs : List ℕ) → Tells (Apart xs) (different xs)
unfolding different
tells_different [] = is (λ i j h g. absurd (omega arith))
tells_different (x ∷ xs) = tells_by to from (tells_and (not_tells (fails_has x xs)) (tells_different xs))
  where
    to : Places (λ y. ¬ (x ≡ y)) xs × Apart xs → Apart (x ∷ xs)
    to a i zero h g = absurd (omega arith)
    to a zero (suc j) h g = a.0 j (omega arith)
    to a (suc i) (suc j) h g = a.1 i j (omega arith) (omega arith)

    from : Apart (x ∷ xs) → Places (λ y. ¬ (x ≡ y)) xs × Apart xs
    from a = (λ j g. a 0 (suc j) (omega arith) (omega arith), λ i j h g. a (suc i) (suc j) (omega arith) (omega arith))

abbrev Rises : List ℕ → Type 0
Rises xs = (i : ℕ) → suc i < length xs → get_or xs i 0 < get_or xs (suc i) 0

tells_rising : (xs : List ℕ) → Tells (Rises xs) (rising xs)
unfolding rising
tells_rising [] = is (λ i h. absurd (omega arith))
tells_rising (x ∷ []) = is (λ i h. absurd (omega arith))
tells_rising (x ∷ (y ∷ ys)) = tells_by to from (tells_and (tells_less x y) (tells_rising (y ∷ ys)))
  where
    to : (x < y) × Rises (y ∷ ys) → Rises (x ∷ y ∷ ys)
    to a zero h = a.0
    to a (suc i) h = a.1 i (omega arith)

    from : Rises (x ∷ y ∷ ys) → (x < y) × Rises (y ∷ ys)
    from a = (a 0 (omega arith), λ i h. a (suc i) (omega arith))

-- a list of n numbers, read place by place
module _ (xs : List ℕ) {n : ℕ} (f : ℕ → ℕ) (many : length xs ≡ n) (same : (i : ℕ) → i < n → get_or xs i 0 ≡ f i) {b : Bool} where
  read_places : (P : ℕ → Type 0) → Tells (Places P xs) b → Tells ((i : ℕ) → i < n → P (f i)) b
  read_places P = tells_by (λ a i h. rw (← same i h) (a i (rw many h))) (λ a i h. let g : i < n = rw many at h in rw (same i g) (a i g))

  read_apart : Tells (Apart xs) b → Tells ((i j : ℕ) → i < j → j < n → ¬ (f i ≡ f j)) b
  read_apart = tells_by (λ a i j l h. rw (← same i (omega arith), ← same j h) (a i j l (rw many h)))
      (λ a i j l h. let g : j < n = rw many at h in rw (same i (omega arith), same j g) (a i j l g))

  read_rises : Tells (Rises xs) b → Tells ((i : ℕ) → i + 1 < n → f i < f (i + 1)) b
  read_rises = tells_by to from
    where
      to : Rises xs → (i : ℕ) → i + 1 < n → f i < f (i + 1)
      to a i h = rw (← same i (omega arith), ← same (i + 1) h, add-one i) (a i (omega arith))

      from : ((i : ℕ) → i + 1 < n → f i < f (i + 1)) → Rises xs
      from a i h =
          let g : i + 1 < n = omega arith in
          let e : get_or xs (suc i) 0 ≡ f (i + 1) = rw (← add-one i) (same (i + 1) g) in
          rw (same i (omega arith), e) (a i g)

-- 01's words of a node and its view
module _ (m : List ℕ) (k : ℕ) where
  abbrev ns : List ℕ
  ns = (view m k).named

  abbrev ks : List ℕ
  ks = keys (view m k).records

  pub names_many : length ns ≡ w.count m k
  names_many = rw (view_names m k) (length_names (at m (slot_at k)))

  shift : (x i : ℕ) → x / byte / 2 ^ (8 * i) ≡ x / 256 ^ (i + 1)
  shift x i =
      shr-shr x 8 (8 * i) ∙ ap (λ (e : ℕ). x / 2 ^ e) (omega arith) ∙ ap (λ (p : ℕ). x / p) (byte_pow (i + 1))

  pub name_is : (i : ℕ) → i < w.count m k → get_or (names (at m (slot_at k))) i 0 ≡ w.name m k i
  unfolding names
  name_is i h =
      bytes_at (w.count m k) (at m (slot_at k) / byte) i h ∙ ap (λ (x : ℕ). x % byte) (shift (at m (slot_at k)) i)

  named_is : (i : ℕ) → i < w.count m k → get_or ns i 0 ≡ w.name m k i
  named_is i h = rw (view_names m k) (name_is i h)

  key_is : (i : ℕ) → i < w.count m k → get_or ks i 0 ≡ w.key_in m k i
  key_is i h = key_at_place m k i h ∙ rw (name_is i h) refl

  -- "a key outside its node's cover"
  pub tells_covered : (lo hi : ℕ) → Tells (w.Covered m k lo hi) (covered lo hi ks)
  tells_covered lo hi =
      read_places ks (w.key_in m k) (keys_many m k) key_is (λ x. (lo ≤ x) × (x < hi)) (tells_cover lo hi ks)

  -- the key is in none of its places
  pub fails_there : (key : ℕ) → Fails ((i : ℕ) → i < w.count m k → ¬ (w.key_in m k i ≡ key)) (has key ks)
  fails_there key =
      fails_by (λ a i h e. a i h (sym e)) (λ a i h e. a i h (sym e)) (tells_not (has key ks)
      (read_places ks (w.key_in m k) (keys_many m k) key_is (λ y. ¬ (key ≡ y)) (not_tells (fails_has key ks))))

  -- "an unsound node"
  tells_inner : (levels : ℕ) → Tells (1 ≤ levels → 1 ≤ w.count m k) (leb (least levels) (length ns))
  tells_inner zero = tells_by (λ h l. absurd (omega arith)) (λ f. omega arith) (tells_most 0 (length ns))
  tells_inner (suc levels) =
      tells_by (λ h l. omega (arith, names_many)) (λ f. let h = f (omega arith) in omega (arith, names_many)) (tells_most 1 (length ns))

  pub tells_sound : (levels : ℕ) → Tells (w.Sound m levels k) (sound (least levels) (view m k))
  unfolding sound
  tells_sound levels =
      tells_by (λ a. record {
        inner = a.0.0.0.0;
        most = omega (arith, names_many, a.0.0.0.1);
        entries = λ i h. omega (arith, a.0.0.1 i h);
        different = a.0.1;
        rise = a.1;
      })
      (λ s. ((((s.inner, omega (arith, names_many, s.most)), λ i h. omega (arith, s.entries i h)), s.different), s.rise))
      (tells_and (tells_and (tells_and (tells_and (tells_inner levels) (tells_most (length ns) 7))
      (read_places ns (w.name m k) names_many named_is (λ x. x < 7) (tells_below 7 ns)))
      (read_apart ns (w.name m k) names_many named_is (tells_different ns)))
      (read_rises ks (w.key_in m k) (keys_many m k) key_is (tells_rising ks)))
