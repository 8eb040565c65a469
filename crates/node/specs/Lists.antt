-- Short lists of numbers and records: put in, taken out, all different, rising.
use Rattle.std.specs.Prelude.{ℕ, zero, suc, ◌+◌, List, [], ◌∷◌, ◌++◌, Bool, true, false, not, ◌&&◌, ◌||◌, take, drop, ltb, leb, eqb}
use Rattle.std.specs.Prelude.{if◌then◌else◌}

-- x put in at place i, and what stands at place i taken out
abbrev pub insert : {A : Type 0} → ℕ → A → List A → List A
insert i x xs = take i xs ++ (x ∷ drop i xs)

abbrev pub remove : {A : Type 0} → ℕ → List A → List A
remove i xs = take i xs ++ drop (suc i) xs

-- x is one of the list
unfoldable pub has : ℕ → List ℕ → Bool
has x [] = false
has x (y ∷ ys) = eqb x y || has x ys

unfoldable pub all_below : ℕ → List ℕ → Bool
all_below b [] = true
all_below b (x ∷ xs) = ltb x b && all_below b xs

unfoldable pub different : List ℕ → Bool
different [] = true
different (x ∷ xs) = not (has x xs) && different xs

-- each is less than the next
unfoldable pub rising : List ℕ → Bool
rising [] = true
rising (x ∷ []) = true
rising (x ∷ (y ∷ ys)) = ltb x y && rising (y ∷ ys)

-- each is in [lo, hi)
unfoldable pub covered : ℕ → ℕ → List ℕ → Bool
covered lo hi [] = true
covered lo hi (x ∷ xs) = leb lo x && ltb x hi && covered lo hi xs

-- the rank of x: how many stand before the first that is not below it
unfoldable pub below : ℕ → List ℕ → ℕ
below x [] = 0
below x (y ∷ ys) = if ltb y x then suc (below x ys) else 0

-- how many stand before the first that is above x
unfoldable pub upto : ℕ → List ℕ → ℕ
upto x [] = 0
upto x (y ∷ ys) = if ltb x y then 0 else suc (upto x ys)

-- the last of the list, d for none
unfoldable pub last_of : ℕ → List ℕ → ℕ
last_of d [] = d
last_of d (x ∷ xs) = last_of x xs

-- the lowest number from i on, of n, that is not in the list; i + n if there is none
unfoldable pub lowest_from : ℕ → ℕ → List ℕ → ℕ
lowest_from i zero xs = i
lowest_from i (suc n) xs = if has i xs then lowest_from (i + 1) n xs else i
