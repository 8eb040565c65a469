-- The lines that come of bytes taken one by one are those of the input, each with its meaning.
use Rattle.std.proofs.Common.{◌≡◌, ◌∙◌, ap, refl, ℕ, ◌+◌, ◌<◌, List, [], ◌∷◌, ◌++◌, map, append_assoc, append-nil, Bool, true, false}
use Rattle.std.proofs.Common.{length, take, arith, length-append}
use borrow.Author.Tests.{lt-ltb, le-ltb, ltb-true, ltb-false, leb-true, leb-false, ne_eqb, lt-leb}
use lib.Dec.{ltb, leb, eqb}
use lib.Seq.{take_all, take-append-le, length-take-le}
use Rattle.std.specs.List.{onto_first}
use Rattle.std.proofs.lemmas.List.Splits.{length-slice_split}
use Rattle.std.specs.Prelude.{if◌then◌else◌}
use Rattle.line.specs.Line.{line_most, meaning, newline, parts, without_empty_last, lines_in}
use Rattle.line.specs.Taken.{fresh, whole, with_byte, stepped, rest, taken, lines_come, and_then}

-- what was taken means what all the bytes mean
pub whole_taken : (bytes : List ℕ) → whole (taken bytes) ≡ meaning bytes
whole_taken bytes = go (ltb line_most (length bytes)) refl
  where
    go : (t : Bool) → ltb line_most (length bytes) ≡ t → whole (taken bytes) ≡ meaning bytes
    go true e = rw (e, lt-leb (length bytes) line_most (ltb-true line_most (length bytes) e))
    go false e = rw (e, take_all line_most bytes (ltb-false line_most (length bytes) e))

-- one byte more
pub with_byte_taken : (bytes : List ℕ) (b : ℕ) → with_byte (taken bytes) b ≡ taken (bytes ++ (b ∷ []))
with_byte_taken bytes b = go (leb line_most (length bytes)) refl
  where
    one : length (bytes ++ (b ∷ [])) ≡ length bytes + 1
    one = length-append bytes (b ∷ [])

    go : (t : Bool) → leb line_most (length bytes) ≡ t → with_byte (taken bytes) b ≡ taken (bytes ++ (b ∷ []))
    go true e =
        let h = leb-true line_most (length bytes) e in
        let l : length (take line_most bytes) ≡ line_most = length-take-le line_most bytes h in
        rw (
          l,
          lt-ltb line_most (length (bytes ++ (b ∷ []))) (omega (arith, one)),
          take-append-le line_most bytes (b ∷ []) h,
        )
    go false e =
        let h = leb-false line_most (length bytes) e in
        rw (
          take_all line_most bytes (omega arith),
          e,
          take_all line_most (bytes ++ (b ∷ [])) (omega (arith, one)),
          le-ltb line_most (length bytes) (omega arith),
          le-ltb line_most (length (bytes ++ (b ∷ []))) (omega (arith, one)),
        )

pub rest_taken : (bytes : List ℕ) → and_then (rest (taken bytes)) [] ≡ map meaning (without_empty_last (bytes ∷ []))
rest_taken [] = refl
rest_taken (b ∷ bytes) =
    let some : eqb (length (take line_most (b ∷ bytes))) 0 ≡ false = ne_eqb (length (take line_most (b ∷ bytes))) 0 (λ e. omega arith) in
    rw (some, whole_taken (b ∷ bytes))

-- bytes put before the first part
abbrev pub before : List ℕ → List (List ℕ) → List (List ℕ)
before bytes [] = bytes ∷ []
before bytes (p ∷ ps) = (bytes ++ p) ∷ ps

before_none : (ps : List (List ℕ)) → 0 < length ps → before [] ps ≡ ps
before_none [] h = absurd (omega arith)
before_none (p ∷ ps) h = refl

before_onto : (bytes : List ℕ) (x : ℕ) (ps : List (List ℕ)) → 0 < length ps
    → before (bytes ++ (x ∷ [])) ps ≡ before bytes (onto_first x ps)
before_onto bytes x [] h = absurd (omega arith)
before_onto bytes x (p ∷ ps) h = rw append_assoc

without_empty_more : (p : List ℕ) (ps : List (List ℕ)) → 0 < length ps → without_empty_last (p ∷ ps) ≡ p ∷ without_empty_last ps
without_empty_more p [] h = absurd (omega arith)
without_empty_more [] (q ∷ ps) h = refl
without_empty_more (x ∷ p) (q ∷ ps) h = refl

-- there is always a first part
parts_some : (xs : List ℕ) → 0 < length (parts newline xs)
parts_some xs = rw length-slice_split (omega arith)

pub lines_after : (bytes xs : List ℕ)
    → lines_come (taken bytes) xs ≡ map meaning (without_empty_last (before bytes (parts newline xs)))
unfolding lines_come
lines_after bytes [] = rw append-nil (rest_taken bytes)
lines_after bytes (x ∷ xs) = go (eqb x newline) (λ (bs : List ℕ). lines_after bs xs)
  where
    go : (t : Bool)
        → ((bs : List ℕ) → lines_come (taken bs) xs ≡ map meaning (without_empty_last (before bs (parts newline xs))))
        → and_then (stepped t (taken bytes) x).came (lines_come (stepped t (taken bytes) x).taker xs)
        ≡ map meaning (without_empty_last (before bytes (if t then [] ∷ parts newline xs else onto_first x (parts newline xs))))
    go true ih =
        rw (
          whole_taken bytes,
          ih [],
          before_none (parts newline xs) (parts_some xs),
          append-nil,
          without_empty_more bytes (parts newline xs) (parts_some xs),
        )
    go false ih = rw (with_byte_taken bytes x, ih (bytes ++ (x ∷ [])), before_onto bytes x (parts newline xs) (parts_some xs))

-- 01 and reading 23: the lines of an input, one after the other
pub lines_are : (input : List ℕ) → lines_come fresh input ≡ map meaning (lines_in input)
lines_are input =
    lines_after [] input ∙ ap (λ ps. map meaning (without_empty_last ps)) (before_none (parts newline input) (parts_some input))
