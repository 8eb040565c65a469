-- Looking at the desks one after the other finds the first full one.
use Prim.Native.Nat.{ℕ, suc, ◌+◌, ◌-◌, ◌≤◌, ◌<◌}
use mathlib.Core.Path.{◌≡◌, refl, sym, ◌∙◌, ap}
use mathlib.Core.Logic.{◌⊎◌, inl, inr}
use mathlib.Core.List.{List, [], ◌∷◌}
use mathlib.Core.Bool.{Bool, true, false}
use native.Mathlib.Omega.{arith}
use native.Mathlib.Numerals.{add-one}
use borrow.Author.Tests.{lt-ltb, le-ltb}
use lib.ListN.{length}
use Rattle.std.specs.Prelude.{Option, Some, None, Ok, Err, if◌then◌else◌}
use Rattle.words.specs.Pool.{list_words}
use Rattle.words.specs.declared.refusal.Refusal.TheVariants.{ShortList, NoDesk}
use Rattle.words.specs.Lists.{count_from}
use Rattle.change.specs.declared.Request.{Request}
use Rattle.desk.specs.Desk.{Desk, full, held, may_turn, first_full, choose}
use Rattle.desk.specs.inner.Parts.{found, chosen}
use Rattle.desk.proofs.Choose.{full_range, skip, stay}

-- the first full desk of those from one place up to another
abbrev pub run : List Desk → ℕ → ℕ → ℕ
run ds i to = first_full ds (count_from (suc i) (to - i))

module _ (ds : List Desk) (i to : ℕ) where
  one_more : i < to → to - i ≡ suc (to - (i + 1))
  one_more h = omega arith

  pub met : (q : Request) → i < to → held ds (suc i) ≡ Some q → Some (i, q) ≡ found ds (run ds i to)
  unfolding first_full
  met q h e = let less : suc i - 1 ≡ i = omega arith in rw (one_more h, e, e, less)

  pub passed : i < to → held ds (suc i) ≡ None → run ds (i + 1) to ≡ run ds i to
  unfolding first_full
  passed h e = rw (one_more h, e, add-one i, add-one (suc i))

  pub none_left : to ≤ i → None ≡ found ds (run ds i to)
  unfolding first_full
  none_left h = let none : to - i ≡ 0 = omega arith in rw none

-- who is found is nobody, or holds a request
holder : (ds : List Desk) (js : List ℕ) → (first_full ds js ≡ 0) ⊎ (full (held ds (first_full ds js)) ≡ true)
unfolding first_full
holder ds [] = inl refl
holder ds (j ∷ js) = go (full (held ds j)) refl (holder ds js)
  where
    go : (b : Bool) → full (held ds j) ≡ b → (first_full ds js ≡ 0) ⊎ (full (held ds (first_full ds js)) ≡ true)
        → ((if b then j else first_full ds js) ≡ 0) ⊎ (full (held ds (if b then j else first_full ds js)) ≡ true)
    go true t h = inr t
    go false t h = h

-- looking ahead, and then at those before, is going round
module _ (ds : List Desk) (last : ℕ) where
  abbrev ahead : List ℕ
  ahead = count_from (suc last) (length ds - last)

  before : found ds (first_full ds ahead) ≡ None → choose ds last ≡ run ds 0 last
  before e = go (holder ds ahead)
    where
      go : (first_full ds ahead ≡ 0) ⊎ (full (held ds (first_full ds ahead)) ≡ true) → choose ds last ≡ run ds 0 last
      go (inl z) = let l : last - 0 ≡ last = omega arith in rw l (skip ds ahead (count_from 1 last) z)
      go (inr t) = by (held ds (first_full ds ahead)) refl t
        where
          by : (d : Desk) → held ds (first_full ds ahead) ≡ d → full d ≡ true → choose ds last ≡ run ds 0 last
          by None f t = cc
          by (Some q) f t = let n : Some (first_full ds ahead - 1, q) ≡ None = rw f at e in cc

  at_once : {x : ℕ × Request} → found ds (first_full ds ahead) ≡ Some x → choose ds last ≡ first_full ds ahead
  at_once {x} e = go (holder ds ahead)
    where
      go : (first_full ds ahead ≡ 0) ⊎ (full (held ds (first_full ds ahead)) ≡ true) → choose ds last ≡ first_full ds ahead
      go (inl z) = let n : None ≡ Some x = rw z at e in cc
      go (inr t) = stay ds ahead (count_from 1 last) (full_range ds (first_full ds ahead) t).0

  module _ (l : List ℕ) where
    pub nine : may_turn (length ds) last ≡ false → Err NoDesk ≡ chosen l ds last
    unfolding chosen
    nine t = rw t

    module _ (may : may_turn (length ds) last ≡ true) where
      pub one : length l < list_words → Err ShortList ≡ chosen l ds last
      unfolding chosen
      one h = rw (may, lt-ltb (length l) list_words h)

      module _ (long : list_words ≤ length l) where
        done : (x : Option (ℕ × Request)) → x ≡ found ds (choose ds last) → Ok x ≡ chosen l ds last
        unfolding chosen
        done x e = rw (may, le-ltb (length l) list_words long) (ap Ok e)

        pub from_first : {x : Option (ℕ × Request)} → found ds (first_full ds ahead) ≡ None → x ≡ found ds (run ds 0 last)
            → Ok x ≡ chosen l ds last
        from_first {x} n e = done x (e ∙ ap (found ds) (sym (before n)))

        pub from_last : {x : ℕ × Request} → found ds (first_full ds ahead) ≡ Some x → Ok (Some x) ≡ chosen l ds last
        from_last {x} e = done (Some x) (sym e ∙ ap (found ds) (sym (at_once e)))
