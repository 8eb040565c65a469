-- The tests of one pass over the names of a node, each on its own, against those of the definition.
use mathlib.Core.Path.{◌≡◌, ◌∙◌, ap, sym, refl}
use mathlib.Core.List.{List, [], ◌∷◌}
use mathlib.Core.Bool.{Bool, true, false, ◌&&◌, and-true, and-false}
use Prim.Native.Nat.{ℕ, ◌+◌, ◌≤◌, ◌<◌}
use native.Mathlib.Nat.{add-zero}
use native.Mathlib.Omega.{arith}
use borrow.Author.Tests.{lt-ltb, le-leb, ltb-true, leb-true, ne_eqb}
use lib.Dec.{ltb, leb, eqb}
use lib.ListN.{length}
use Rattle.std.specs.Prelude.{if◌then◌else◌}
use Rattle.node.specs.Lists.{rising, covered, last_of}
use Rattle.node.specs.inner.Looked.{ends}
use Rattle.words.proofs.Tests.{both}

-- a key may come after j others, the last of them `low`
abbrev pub follows : ℕ → ℕ → ℕ → Bool
follows j low x = if eqb j 0 then leb low x else ltb low x

pub later : (j : ℕ) → eqb (j + 1) 0 ≡ false
later j = ne_eqb (j + 1) 0 (λ e. omega arith)

-- its tests, each on its own: the keys rise, the last is below the end
unfoldable pub rises : ℕ → ℕ → List ℕ → Bool
rises j low [] = true
rises j low (x ∷ xs) = follows j low x && rises (j + 1) x xs

unfoldable pub final : ℕ → ℕ → ℕ → List ℕ → Bool
final hi j low [] = ends hi j low
final hi j low (x ∷ xs) = final hi (j + 1) x xs

pub final_is : (hi j low : ℕ) (xs : List ℕ) → final hi j low xs ≡ ends hi (j + length xs) (last_of low xs)
unfolding final last_of
final_is hi j low [] = rw (add-zero j)
final_is hi j low (x ∷ xs) =
    let more : j + 1 + length xs ≡ j + length (x ∷ xs) = omega arith in
    final_is hi (j + 1) x xs ∙ ap (λ (n : ℕ). ends hi n (last_of x xs)) more

-- a test that fails early fails the whole
pub turned : (a f x r : Bool) → (if a then (if f then (x && r) else false) else false) ≡ ((a && x) && (f && r))
turned false f x r = refl
turned true true x r = refl
turned true false true r = refl
turned true false false r = refl

rises_on : (j x : ℕ) (xs : List ℕ) → rises (j + 1) x xs ≡ rising (x ∷ xs)
unfolding rises rising
rises_on j x [] = refl
rises_on j x (y ∷ ys) = rw (later j, rises_on (j + 1) y ys)

-- of rising keys from lo on, the last alone is held against the end
last_covered : (hi lo j x : ℕ) (xs : List ℕ) → lo ≤ x → rising (x ∷ xs) ≡ true → (ltb x hi && covered lo hi xs) ≡ final hi (j + 1) x xs
unfolding final rising covered
last_covered hi lo j x [] h r = rw (later j) (and-true (ltb x hi))
last_covered hi lo j x (y ∷ ys) h r =
    let t = both r in
    let l : x < y = ltb-true x y t.0 in
    let m : lo ≤ y = omega arith in
    rw (le-leb lo y m) (go (ltb y hi) refl l ∙ last_covered hi lo (j + 1) y ys m t.1)
  where
    go : (b : Bool) → ltb y hi ≡ b → x < y → (ltb x hi && (b && covered lo hi ys)) ≡ (b && covered lo hi ys)
    go true e l = let u : y < hi = ltb-true y hi e in rw (lt-ltb x hi (omega arith))
    go false e l = and-false (ltb x hi)

pub rises_covered : (hi lo : ℕ) (xs : List ℕ) → (rises 0 lo xs && final hi 0 lo xs) ≡ (rising xs && covered lo hi xs)
unfolding rises final rising covered
rises_covered hi lo [] = refl
rises_covered hi lo (x ∷ xs) = rw (rises_on 0 x xs) (go (leb lo x) refl (rising (x ∷ xs)) refl)
  where
    go : (b : Bool) → leb lo x ≡ b → (r : Bool) → rising (x ∷ xs) ≡ r
        → ((b && r) && final hi 1 x xs) ≡ (r && (b && ltb x hi && covered lo hi xs))
    go true p true q = sym (last_covered hi lo 0 x xs (leb-true lo x p) q)
    go true p false q = refl
    go false p true q = refl
    go false p false q = refl

-- the tests of a pass, joined as the definition joins them: names whose keys rise are all different
pub assembled : (a d r z s v w : Bool) → (r && z) ≡ (s && v) → (s ≡ true → d ≡ true) → w ≡ true → (a && r && z) ≡ (w && a && d && s && v)
assembled true d r z true v w p q h = rw (h, q refl) p
assembled true true r z false v w p q h = rw h p
assembled true false r z false v w p q h = rw h p
assembled false d r z s v w p q h = rw h
