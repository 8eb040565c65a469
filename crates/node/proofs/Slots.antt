-- Slot words and the names that they hold.
use mathlib.Core.Path.{◌≡◌, ◌∙◌, ap, sym, refl}
use mathlib.Core.List.{List, ◌∷◌}
use mathlib.Core.Bool.{true}
use Prim.Native.Nat.{ℕ, zero, suc, ◌+◌, ◌-◌, ◌*◌, ◌/◌, ◌%◌, ◌^◌, ◌≤◌, ◌<◌}
use native.Mathlib.Nat.{mod-lt, lt_of_lt_of_le}
use native.Mathlib.Numerals.{add-one}
use native.Mathlib.Omega.{arith}
use lib.Arith.{digits_div, digits_mod}
use lib.Bits.{bit_or}
use lib.Dec.{lit≤}
use lib.ListN.{length, get_or, take}
use lib.Pow.{pow_pos, pow_mono}
use Rattle.words.specs.Lists.{count_from}
use Rattle.node.specs.Lists.{insert, remove, all_below}
use Rattle.node.specs.Slot.{byte, bytes, word_of, count, names, slot, entries}
use Rattle.words.proofs.Joined.{joined}
use Rattle.node.proofs.Digits.{length_bytes, bytes_take, bytes_at, low_word, bytes_word_of}

pub length_names : (w : ℕ) → length (names w) ≡ count w
unfolding names
length_names w = length_bytes (count w) (w / byte)

pub names_slot : (ns : List ℕ) → length ns < byte → all_below byte ns ≡ true → names (slot ns) ≡ ns
unfolding names slot word_of
names_slot ns few small = rw (digits_mod (word_of ns) few, digits_div (word_of ns) few) (bytes_word_of ns small)

-- the lowest n bytes of a word of names, shifted up by one byte over their number
pub slot_joined : (v n : ℕ) → n ≤ entries → bit_or ((v % 2 ^ (8 * n) * 2 ^ 8) % 2 ^ 64) n ≡ slot (bytes n v)
unfolding slot word_of
slot_joined v n h =
    let p : 2 ^ (8 * n) ≤ 2 ^ 56 = pow_mono {i = 8 * n} {j = 56} (omega arith) in
    joined 56 8 (lt_of_lt_of_le (mod-lt v (pow_pos (8 * n))) p) (omega arith) (lit≤ tt)
    ∙ rw (low_word n v, length_bytes n v)

-- the name in place i stands one byte above it
pub name_at : (w i : ℕ) → i < count w → count w ≤ entries → get_or (bytes 8 w) (i + 1) 0 ≡ get_or (names w) i 0
unfolding names bytes
name_at w i h few =
    rw (add-one i) (bytes_at entries (w / byte) i (omega arith) ∙ sym (bytes_at (count w) (w / byte) i h))

pub names_take : (w n : ℕ) → n ≤ count w → bytes n (w / byte) ≡ take n (names w)
unfolding names
names_take w n h = bytes_take n (count w) (w / byte) h

-- what a call that puts in or takes out a byte of the names says, at the count
module _ (w v r : ℕ) {n : ℕ} (is : n ≡ count w) where
  pub name_put : (e : ℕ) → ((n : ℕ) → r ≤ n → bytes (suc n) v ≡ insert r e (bytes n (w / byte))) → r ≤ count w
      → bytes (n + 1) v ≡ insert r e (names w)
  unfolding names
  name_put e f h = rw (is, add-one (count w)) (f (count w) h)

  pub name_taken : ((n : ℕ) → r ≤ n → bytes n v ≡ remove r (bytes (suc n) (w / byte))) → r < count w
      → bytes (n - 1) v ≡ remove r (names w)
  unfolding names
  name_taken f h = rw (is) (f (count w - 1) (omega arith) ∙ ap (λ (k : ℕ). remove r (bytes k (w / byte))) back)
    where
      back : suc (count w - 1) ≡ count w
      back = omega arith

-- the names, by the count that code has read
pub names_at : (w : ℕ) {n : ℕ} → n ≡ count w → bytes n (w / byte) ≡ names w
unfolding names
names_at w e = ap (λ (k : ℕ). bytes k (w / byte)) e

take_count : (n m i : ℕ) → n ≤ m → take n (count_from i m) ≡ count_from i n
take_count zero m i h = refl
take_count (suc n) zero i h = absurd (omega arith)
take_count (suc n) (suc m) i h = ap (λ (l : List ℕ). i ∷ l) (take_count n m (i + 1) (omega arith))

seven_bytes : bytes entries 0x0006_0504_0302_0100 ≡ count_from 0 entries
unfolding bytes
seven_bytes = refl

-- the word whose seven bytes are 0 to 6
pub rising_bytes : (n : ℕ) → n ≤ entries → bytes n 0x0006_0504_0302_0100 ≡ count_from 0 n
rising_bytes n h = bytes_take n entries 0x0006_0504_0302_0100 h ∙ ap (take n) seven_bytes ∙ take_count n entries 0 h
