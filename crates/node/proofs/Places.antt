-- Something put in at a place of a list, and taken out again.
use mathlib.Core.Path.{◌≡◌, ap, refl}
use mathlib.Core.List.{List, [], ◌∷◌, map}
use Prim.Native.Nat.{ℕ, zero, suc, ◌≤◌, ◌<◌}
use native.Mathlib.Omega.{arith}
use lib.ListN.{length, get_or, take}
use Rattle.node.specs.Lists.{insert, remove}

module _ {A : Type 0} where
  pub length_insert : (i : ℕ) (x : A) (xs : List A) → length (insert i x xs) ≡ suc (length xs)
  length_insert zero x xs = refl
  length_insert (suc i) x [] = refl
  length_insert (suc i) x (y ∷ ys) = ap suc (length_insert i x ys)

  pub length_remove : (i : ℕ) (xs : List A) → i < length xs → suc (length (remove i xs)) ≡ length xs
  length_remove i [] h = absurd (omega arith)
  length_remove zero (y ∷ ys) h = refl
  length_remove (suc i) (y ∷ ys) h = ap suc (length_remove i ys (omega arith))

  pub insert_remove : (i : ℕ) (xs : List A) (d : A) → i < length xs → insert i (get_or xs i d) (remove i xs) ≡ xs
  insert_remove i [] d h = absurd (omega arith)
  insert_remove zero (y ∷ ys) d h = refl
  insert_remove (suc i) (y ∷ ys) d h = ap (λ (l : List A). y ∷ l) (insert_remove i ys d (omega arith))

  pub getD_insert : (i : ℕ) (x : A) (xs : List A) (d : A) → i ≤ length xs → get_or (insert i x xs) i d ≡ x
  getD_insert zero x xs d h = refl
  getD_insert (suc i) x [] d h = absurd (omega arith)
  getD_insert (suc i) x (y ∷ ys) d h = getD_insert i x ys d (omega arith)

module _ {A B : Type 0} (f : A → B) where
  pub map_take : (i : ℕ) (xs : List A) → map f (take i xs) ≡ take i (map f xs)
  map_take zero xs = refl
  map_take (suc i) [] = refl
  map_take (suc i) (x ∷ xs) = ap (λ (l : List B). f x ∷ l) (map_take i xs)

  pub map_insert : (i : ℕ) (x : A) (xs : List A) → map f (insert i x xs) ≡ insert i (f x) (map f xs)
  map_insert zero x xs = refl
  map_insert (suc i) x [] = refl
  map_insert (suc i) x (y ∷ ys) = ap (λ (l : List B). f y ∷ l) (map_insert i x ys)

  pub map_remove : (i : ℕ) (xs : List A) → map f (remove i xs) ≡ remove i (map f xs)
  map_remove i [] = map_remove_nil i
    where
      map_remove_nil : (i : ℕ) → map f (remove i []) ≡ remove i []
      map_remove_nil zero = refl
      map_remove_nil (suc i) = refl
  map_remove zero (y ∷ ys) = refl
  map_remove (suc i) (y ∷ ys) = ap (λ (l : List B). f y ∷ l) (map_remove i ys)
