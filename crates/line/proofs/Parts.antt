-- What the fields of a line ask, as `split` gives them by one call of `next` after the other.
use Rattle.std.proofs.Common.{◌≡◌, subst, ℕ, List, [], ◌∷◌, Bool, false, refl, eqb}
use Rattle.std.specs.Prelude.{Option, Some, None}
use Rattle.std.specs.Option.{option_copied}
use Rattle.std.specs.Fn.{CalledAt}
use Rattle.std.specs.Iterator.{AlwaysYields}
use Rattle.std.specs.Iterator.Runs.{Run, EachRunFrom}
use Rattle.std.specs.declared.slice.Split.{Split}
use Rattle.std.specs.Slice.Iter.{split_rest, split_done, split_callee, split_steps}
use Rattle.std.proofs.lemmas.Iterator.Splits.{YieldsList-from_slice_split}
use denote.Param.Members.{Mut}
use denote.Ref.{Bor}
use Rattle.change.specs.declared.Request.{Request}
use Rattle.line.specs.Line.{blank, parts, request_of, fields_mean}

-- the request that four calls of `next` give: of a word, a key and maybe a value, and then none
abbrev pub asked_by : (first second third fourth : Option (Bor (List ℕ))) → Option Request
asked_by None second third fourth = None
asked_by (Some w) None third fourth = None
asked_by (Some w) (Some k) third (Some x) = None
asked_by (Some w) (Some k) third None = request_of w.now k.now (option_copied third)

module _ {S : Type 0} (steps : S → Option (Bor (List ℕ)) → S → Type 0) (stays : (s t : S) → steps s None t → t ≡ s) where
  asked_is : (fields : List (List ℕ)) {s t u v w : S} → AlwaysYields steps (λ x. x.now) s fields
      → (first second third fourth : Option (Bor (List ℕ))) → steps s first t → steps t second u → steps u third v → steps v fourth w
      → asked_by first second third fourth ≡ fields_mean fields
  asked_is [] all None second third fourth a b c d = refl
  asked_is [] all (Some x) second third fourth a b c d = absurd (all x _ a)
  asked_is (p ∷ fields) all None second third fourth a b c d = absurd (all.0 _ a)
  asked_is (p ∷ []) all (Some x) None third fourth a b c d = refl
  asked_is (p ∷ []) all (Some x) (Some y) third fourth a b c d = absurd ((all.1 x _ a).1 y _ b)
  asked_is (p ∷ q ∷ fields) all (Some x) None third fourth a b c d = absurd ((all.1 x _ a).1.0 _ b)
  asked_is (p ∷ q ∷ []) all (Some x) (Some y) None None a b c d = rw ((all.1 x _ a).0, ((all.1 x _ a).1.1 y _ b).0)
  asked_is (p ∷ q ∷ []) {w = w} all (Some x) (Some y) None (Some z) a b c d =
      absurd (((all.1 x _ a).1.1 y _ b).1 z w (subst (λ v. steps v (Some z) w) (stays _ _ c) d))
  asked_is (p ∷ q ∷ []) all (Some x) (Some y) (Some z) fourth a b c d = absurd (((all.1 x _ a).1.1 y _ b).1 z _ c)
  asked_is (p ∷ q ∷ r ∷ fields) all (Some x) (Some y) None fourth a b c d = absurd (((all.1 x _ a).1.1 y _ b).1.0 _ c)
  asked_is (p ∷ q ∷ r ∷ []) all (Some x) (Some y) (Some z) None a b c d =
      rw ((all.1 x _ a).0, ((all.1 x _ a).1.1 y _ b).0, (((all.1 x _ a).1.1 y _ b).1.1 z _ c).0)
  asked_is (p ∷ q ∷ r ∷ []) all (Some x) (Some y) (Some z) (Some z') a b c d =
      absurd ((((all.1 x _ a).1.1 y _ b).1.1 z _ c).1 z' _ d)
  asked_is (p ∷ q ∷ r ∷ g ∷ fields) all (Some x) (Some y) (Some z) None a b c d =
      absurd ((((all.1 x _ a).1.1 y _ b).1.1 z _ c).1.0 _ d)
  asked_is (p ∷ q ∷ r ∷ g ∷ fields) all (Some x) (Some y) (Some z) (Some z') a b c d = refl

-- four calls on the line that `split` parts at its blanks
module _ {F : Type 0} {g : Mut F (Bor ℕ × Unit {0}) Bool} {s : Split ℕ F} {P : Run (split_steps g) → Type 0}
    (runs : EachRunFrom (split_steps g) s P) (line : List ℕ) where
  pub line_asks : split_rest s ≡ line → split_done s ≡ false → {f : F} → split_callee s ≡ f
      → (first second third fourth : Option (Bor (List ℕ))) (t u v w : Split ℕ F)
      → split_steps g s first t → split_steps g t second u → split_steps g u third v → split_steps g v fourth w
      → ((x : ℕ) (b : Bool) (q : F) → CalledAt g f x b q → (q ≡ f) × (b ≡ eqb x blank))
      → asked_by first second third fourth ≡ fields_mean (parts blank line)
  line_asks rest done callee first second third fourth t u v w a b c d tests =
      let given = YieldsList-from_slice_split {s = s} g (λ x. eqb x blank) line rest done callee tests in
      asked_is (split_steps g) (λ s t h. h.1) (parts blank line) given.runs first second third fourth a b c d
