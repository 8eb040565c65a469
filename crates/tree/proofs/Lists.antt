-- Laws of lists: one after the other, each, and how often.
use Prim.Native.Nat.{ℕ, ◌+◌, ◌≤◌}
use mathlib.Core.Path.{◌≡◌, refl}
use mathlib.Core.List.{List, [], ◌∷◌, ◌++◌, append_assoc}
use mathlib.Core.Bool.{Bool, true, false}
use native.Mathlib.Omega.{arith}
use lib.Dec.{eqb}
use borrow.Author.Tests.{eq-eqb, ne_eqb, eqb-true}
use Rattle.tree.specs.Lists.{gather, Each, one, occ}

pub gather_append : {A B : Type 0} (f : A → List B) (a b : List A) → gather f (a ++ b) ≡ gather f a ++ gather f b
gather_append f [] b = refl
gather_append f (x ∷ a) b = rw (gather_append f a b, append_assoc)

module _ {A : Type 0} (P : A → Type 0) where
  pub each_append : (a b : List A) → Each P a → Each P b → Each P (a ++ b)
  each_append [] b h k = k
  each_append (x ∷ a) b h k = (h.0, each_append a b h.1 k)

  pub each_left : (a b : List A) → Each P (a ++ b) → Each P a
  each_left [] b h = tt
  each_left (x ∷ a) b h = (h.0, each_left a b h.1)

  pub each_right : (a b : List A) → Each P (a ++ b) → Each P b
  each_right [] b h = h
  each_right (x ∷ a) b h = each_right a b h.1

pub one_self : (j : ℕ) → one j j ≡ 1
one_self j = rw (eq-eqb j j refl)

pub one_other : (j x : ℕ) → (j ≡ x → ⊥) → one j x ≡ 0
one_other j x h = rw (ne_eqb j x h)

pub one_says : (j x : ℕ) → 1 ≤ one j x → j ≡ x
one_says j x h = go (eqb j x) refl
  where
    go : (b : Bool) → eqb j x ≡ b → j ≡ x
    go true e = eqb-true j x e
    go false e = let h' : ◌≤◌ 1 0 = rw e at h in absurd (omega arith)

pub occ_append : (j : ℕ) (a b : List ℕ) → occ j (a ++ b) ≡ occ j a + occ j b
occ_append j [] b = omega arith
occ_append j (x ∷ a) b = omega (arith, occ_append j a b)

pub each_of : (P : ℕ → Type 0) (l : List ℕ) → ((x : ℕ) → 1 ≤ occ x l → P x) → Each P l
each_of P [] h = tt
each_of P (x ∷ l) h = (h x (omega (arith, one_self x)), each_of P l (λ y o. h y (omega arith)))
