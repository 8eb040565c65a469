-- Decimal in and decimal out.
use Rattle.std.proofs.Common.{◌≡◌, ◌∙◌, ap, refl, ℕ, zero, suc, ◌+◌, ◌-◌, ◌*◌, ◌/◌, ◌%◌, ◌^◌, ◌≤◌, ◌<◌, List, [], ◌∷◌, ◌++◌}
use Rattle.std.proofs.Common.{append_assoc, append-nil}
use Rattle.std.proofs.Common.{length, get_or, drop, arith, add-one, zero-add, Bool, true, false, length-append, drop-cons, lit<}
use native.Mathlib.Nat.{div-add-mod', mod-lt}
use borrow.Author.Tests.{lt-ltb, le-ltb}
use lib.Dec.{ltb}
use lib.ListN.{drop_of_length-le}
use Rattle.std.specs.Prelude.{Some, None, if◌then◌else◌}
use Rattle.std.specs.Fmt.{decimal}
use Rattle.std.proofs.lemmas.Fmt.{AppendsLastDigit, decimal_from_appends, decimal_by_steps, decimal_nonempty, length-decimal-le}
use borrow.Author.Rules.{rules}
use Rattle.words.proofs.Tests.{within_of}
use Rattle.line.specs.Line.{is_digit, read, number_of, digits_in, digits}

-- a number over 64 bits stays one
pub read_big : (n : ℕ) (ds : List ℕ) → 2 ^ 64 ≤ n → read n ds ≡ None
unfolding read
read_big n [] h = rw (le-ltb n (2 ^ 64) h)
read_big n (d ∷ ds) h = go (is_digit d) (read_big (n * 10 + (d - 48)) ds (omega arith))
  where
    go : (t : Bool) → read (n * 10 + (d - 48)) ds ≡ None → (if t then read (n * 10 + (d - 48)) ds else None) ≡ None
    go true e = e
    go false e = refl

pub number_some : (ds : List ℕ) → ¬ (length ds ≡ 0) → number_of ds ≡ read 0 ds
number_some [] n = absurd (n refl)
number_some (d ∷ ds) n = refl

-- the digits from place i on, after those that said n
module _ (n : ℕ) (ds : List ℕ) (i : ℕ) where
  pub read_on : {m : ℕ} → i < length ds → is_digit (get_or ds i 0) ≡ true → m ≡ n * 10 + (get_or ds i 0 - 48)
      → read n (drop i ds) ≡ read m (drop (i + 1) ds)
  unfolding read
  read_on h d e = rw (drop-cons ds i 0 h, d, add-one, e)

  pub read_over : i < length ds → is_digit (get_or ds i 0) ≡ true → 2 ^ 64 ≤ n * 10 + (get_or ds i 0 - 48)
      → read n (drop i ds) ≡ None
  read_over h d over = read_on h d refl ∙ read_big _ _ over

  pub read_other : i < length ds → is_digit (get_or ds i 0) ≡ false → read n (drop i ds) ≡ None
  unfolding read
  read_other h d = rw (drop-cons ds i 0 h, d)

  pub read_end : length ds ≤ i → n < 2 ^ 64 → read n (drop i ds) ≡ Some n
  unfolding read
  read_end h f = rw (drop_of_length-le ds h, lt-ltb n (2 ^ 64) f)

-- a digit read
read_digit : (n d : ℕ) (rest : List ℕ) → d < 10 → read n ((48 + d) ∷ rest) ≡ read (n * 10 + d) rest
unfolding read
read_digit n d rest h =
    rw (within_of 48 (48 + d) 57 (omega arith) (omega arith)) (ap (λ (m : ℕ). read m rest) (omega arith))

-- the digits of x, read before others
read_decimal : (x : ℕ) → x < 2 ^ 64 → (rest : List ℕ) → read 0 (decimal x ++ rest) ≡ read x rest
read_decimal =
    decimal_by_steps (λ x ds. (rest : List ℕ) → read 0 (ds ++ rest) ≡ read x rest) (λ x h rest. rw zero-add at (read_digit 0 x rest h))
    (λ x ds h above rest.
    rw append_assoc
    (above ((48 + x % 10) ∷ rest) ∙ read_digit (x / 10) (x % 10) rest (mod-lt x (lit< tt))
    ∙ ap (λ (m : ℕ). read m rest) (div-add-mod' x 10)))

-- what is printed is the library's decimal text
pub digits_decimal : (x : ℕ) → x < 2 ^ 64 → digits x ≡ decimal x
unfolding digits digits_in
digits_decimal x f =
    let own : AppendsLastDigit digits_in = search rules in
    decimal_from_appends digits_in own 20 x f (length-decimal-le 20 x (lit< tt) (omega arith) f)

length_digits_in : (n x : ℕ) → length (digits_in n x) ≤ n
unfolding digits_in
length_digits_in zero x = omega arith
length_digits_in (suc n) x = go (ltb x 10) (length_digits_in n (x / 10))
  where
    go : (t : Bool) → length (digits_in n (x / 10)) ≤ n
        → length (if t then (48 + x) ∷ [] else digits_in n (x / 10) ++ ((48 + x % 10) ∷ [])) ≤ suc n
    go true h = omega arith
    go false h = rw length-append (omega arith)

pub length_digits : (x : ℕ) → length (digits x) ≤ 20
unfolding digits
length_digits x = length_digits_in 20 x

-- decimal in of decimal out is the number again
pub number_digits : (x : ℕ) → x < 2 ^ 64 → number_of (digits x) ≡ Some x
number_digits x f =
    rw (digits_decimal x f)
    (number_some (decimal x) (λ e. let h = decimal_nonempty x f in omega arith) ∙ rw append-nil at (read_decimal x f [])
    ∙ read_end x [] 0 (omega arith) f)

-- a step of reading
pub ruleset reads = (read_on, read_over, read_other, read_end)
