-- A word and the list of its bytes: read, cut, put together, a byte put in and taken out.
use mathlib.Core.Path.{◌≡◌, ◌∙◌, ap, sym, refl}
use mathlib.Core.List.{List, [], ◌∷◌}
use mathlib.Core.Bool.{true}
use Prim.Native.Nat.{ℕ, zero, suc, ◌+◌, ◌*◌, ◌/◌, ◌%◌, ◌^◌, ◌≤◌, ◌<◌}
use native.Mathlib.Nat.{div-one, mod-one, mod-lt, mul_assoc, add-zero, mul-one, pow-suc}
use native.Mathlib.Omega.{arith}
use borrow.Author.Tests.{ltb-true}
use lib.Arith.{digits_div, digits_mod}
use lib.Dec.{lit<}
use lib.ListN.{length, get_or, take}
use lib.Pow.{shr-shr, pow-add, mod-pow-add}
use Rattle.node.specs.Lists.{insert, remove, all_below}
use Rattle.node.specs.Slot.{byte, bytes, word_of}
use Rattle.words.proofs.Tests.{both}

pub length_bytes : (n w : ℕ) → length (bytes n w) ≡ n
unfolding bytes
length_bytes zero w = refl
length_bytes (suc n) w = ap suc (length_bytes n (w / byte))

-- the first i of n bytes
pub bytes_take : (i n w : ℕ) → i ≤ n → bytes i w ≡ take i (bytes n w)
unfolding bytes
bytes_take zero n w h = refl
bytes_take (suc i) zero w h = absurd (omega arith)
bytes_take (suc i) (suc n) w h = ap (λ (l : List ℕ). w % byte ∷ l) (bytes_take i n (w / byte) (omega arith))

-- 8 bits to a byte
pow_next : (i : ℕ) → 2 ^ (8 * suc i) ≡ 2 ^ (8 * i) * byte
pow_next i = ap (λ (k : ℕ). 2 ^ k) (omega arith) ∙ pow-add 2 (8 * i) 8

pub byte_pow : (n : ℕ) → 2 ^ (8 * n) ≡ byte ^ n
byte_pow zero = refl
byte_pow (suc n) = rw (pow_next n, byte_pow n, pow-suc)

shift_next : (w i : ℕ) → w / 2 ^ (8 * suc i) ≡ w / byte / 2 ^ (8 * i)
shift_next w i = sym (shr-shr w 8 (8 * i) ∙ ap (λ (k : ℕ). w / 2 ^ k) (omega arith))

low_next : (w i : ℕ) → w % 2 ^ (8 * suc i) ≡ w / byte % 2 ^ (8 * i) * byte + w % byte
low_next w i = ap (λ (k : ℕ). w % 2 ^ k) (omega arith) ∙ mod-pow-add w (8 * i) 8

-- byte i
pub bytes_at : (n w i : ℕ) → i < n → get_or (bytes n w) i 0 ≡ w / 2 ^ (8 * i) % byte
unfolding bytes
bytes_at zero w i h = absurd (omega arith)
bytes_at (suc n) w zero h = rw (div-one)
bytes_at (suc n) w (suc i) h = rw (shift_next w i) (bytes_at n (w / byte) i (omega arith))

-- the word of the lowest n bytes of w is w without its other bytes
pub low_word : (n w : ℕ) → word_of (bytes n w) ≡ w % 2 ^ (8 * n)
unfolding bytes word_of
low_word zero w = sym (mod-one w)
low_word (suc n) w = rw (low_word n (w / byte)) (sym (low_next w n))

-- the bytes of a word of bytes
pub bytes_word_of : (bs : List ℕ) → all_below byte bs ≡ true → bytes (length bs) (word_of bs) ≡ bs
unfolding bytes word_of all_below
bytes_word_of [] s = refl
bytes_word_of (b ∷ bs) s =
    let t = both s in
    let h : b < byte = ltb-true b byte t.0 in
    rw (digits_mod (word_of bs) h, digits_div (word_of bs) h, bytes_word_of bs t.1)

-- w with b put in at byte i, and with byte i taken out, as sums
abbrev pub put_in : ℕ → ℕ → ℕ → ℕ
put_in w i b = (w / 2 ^ (8 * i) * byte + b) * 2 ^ (8 * i) + w % 2 ^ (8 * i)

abbrev pub taken_out : ℕ → ℕ → ℕ
taken_out w i = w / 2 ^ (8 * i) / byte * 2 ^ (8 * i) + w % 2 ^ (8 * i)

put_in_next : (w i b : ℕ) → put_in w (suc i) b ≡ put_in (w / byte) i b * byte + w % byte
put_in_next w i b = rw (shift_next w i, low_next w i, pow_next i, ← mul_assoc) (omega arith)

taken_out_next : (w i : ℕ) → taken_out w (suc i) ≡ taken_out (w / byte) i * byte + w % byte
taken_out_next w i = rw (shift_next w i, low_next w i, pow_next i, ← mul_assoc) (omega arith)

-- a word whose lowest byte is c, with v above it
above : (n c v : ℕ) → c < byte → bytes (suc n) (v * byte + c) ≡ c ∷ bytes n v
unfolding bytes
above n c v h = rw (digits_mod v h, digits_div v h)

low_byte : (w : ℕ) → w % byte < byte
low_byte w = mod-lt w (lit< tt)

pub bytes_put_in : (i n w b : ℕ) → b < byte → i ≤ n → bytes (suc n) (put_in w i b) ≡ insert i b (bytes n w)
unfolding bytes
bytes_put_in zero n w b hb h = rw (div-one, mod-one, mul-one, add-zero) (above n b w hb)
bytes_put_in (suc i) zero w b hb h = absurd (omega arith)
bytes_put_in (suc i) (suc n) w b hb h =
    rw (put_in_next w i b) (above (suc n) (w % byte) (put_in (w / byte) i b) (low_byte w)
    ∙ ap (λ (l : List ℕ). w % byte ∷ l) (bytes_put_in i n (w / byte) b hb (omega arith)))

pub bytes_taken_out : (i n w : ℕ) → i ≤ n → bytes n (taken_out w i) ≡ remove i (bytes (suc n) w)
unfolding bytes
bytes_taken_out zero n w h = rw (div-one, mod-one, mul-one, add-zero)
bytes_taken_out (suc i) zero w h = absurd (omega arith)
bytes_taken_out (suc i) (suc n) w h =
    rw (taken_out_next w i) (above n (w % byte) (taken_out (w / byte) i) (low_byte w)
    ∙ ap (λ (l : List ℕ). w % byte ∷ l) (bytes_taken_out i n (w / byte) (omega arith)))
