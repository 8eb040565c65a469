-- Document 01, "Numbers of refusal": when each applies, exactly, over the words that are lent. Nothing here names a test of a
-- definition: `at m w` is word w of m, and every number is 01's own.
use Rattle.std.specs.Prelude.{ℕ, suc, ◌+◌, ◌-◌, ◌*◌, ◌/◌, ◌%◌, ◌^◌, ◌≤◌, ◌<◌, ◌≡◌, ◌⊎◌, List, [], ◌∷◌, length}
use Rattle.words.specs.Event.{at}
pub use Rattle.words.specs.Refusals.{Rows, Says, Outside}

-- 1: "event list under 372 words"
abbrev pub ShortList : List ℕ → Type 0
ShortList l = length l < 372

-- 2: "slice under 88 words; word 0 not 1; words 1 to 4 break their rules; slice under total". The rules: "total words, log offset (8),
-- nodes offset (72), capacity"; "Total = 72 + 16 × capacity; capacity is 1 to 40,000."
pub data NoPool (m : List ℕ) : Type 0 where
  short : length m < 88 → NoPool m
  form : ¬ (at m 0 ≡ 1) → NoPool m
  total_rule : ¬ (at m 1 ≡ 72 + 16 * at m 4) → NoPool m
  log_rule : ¬ (at m 2 ≡ 8) → NoPool m
  nodes_rule : ¬ (at m 3 ≡ 72) → NoPool m
  capacity_rule : Outside 1 (at m 4) 40000 → NoPool m
  under : length m < at m 1 → NoPool m

-- 3: "commit word not 0"
abbrev pub Unfinished : List ℕ → Type 0
Unfinished m = ¬ (at m 8 ≡ 0)

-- 4, the header part: "used not 1..capacity; root not 1..used; height not 1..8"
pub data BadCounts (m : List ℕ) : Type 0 where
  used : Outside 1 (at m 5) (at m 4) → BadCounts m
  root : Outside 1 (at m 6) (at m 5) → BadCounts m
  height : Outside 1 (at m 7) 8 → BadCounts m

-- "node k starts at word 56 + 16k. Word 0 of a node is the slot word: its lowest byte is the count"
abbrev pub count : List ℕ → ℕ → ℕ
count m k = at m (56 + 16 * k) % 256

-- "and the next bytes name the entries": the entry of node k that stands in place i, from 0 on
abbrev pub name : List ℕ → ℕ → ℕ → ℕ
name m k i = at m (56 + 16 * k) / 256 ^ (i + 1) % 256

-- "Word 1 is .. the leftmost child in an inner node."
abbrev pub leftmost : List ℕ → ℕ → ℕ
leftmost m k = at m (56 + 16 * k + 1)

-- "Entry i is words 2 + 2i (key) and 3 + 2i (value or child)": those of the entry in place i
abbrev pub key_in : List ℕ → ℕ → ℕ → ℕ
key_in m k i = at m (56 + 16 * k + (2 + 2 * name m k i))

abbrev pub child_in : List ℕ → ℕ → ℕ → ℕ
child_in m k i = at m (56 + 16 * k + (3 + 2 * name m k i))

-- "A node is sound when its count is at most 7 (at least 1 if inner), its named entries are at most 6 and all different, and keys rise
-- strictly." An inner node is one with levels below it.
pub record Sound (m : List ℕ) (levels k : ℕ) : Type 0 where
  pub most : count m k ≤ 7
  pub inner : 1 ≤ levels → 1 ≤ count m k
  pub entries : (i : ℕ) → i < count m k → name m k i ≤ 6
  pub different : (i j : ℕ) → i < j → j < count m k → ¬ (name m k i ≡ name m k j)
  pub rise : (i : ℕ) → i + 1 < count m k → key_in m k i < key_in m k (i + 1)

-- "keys keep within their covers": those of node k are from lo on and below hi
abbrev pub Covered : List ℕ → ℕ → ℕ → ℕ → Type 0
Covered m k lo hi = (i : ℕ) → i < count m k → (lo ≤ key_in m k i) × (key_in m k i < hi)

-- node k, which covers the keys from lo up to hi, has nothing of refusal 4
pub record Fit (m : List ℕ) (levels k lo hi : ℕ) : Type 0 where
  pub in_use : (1 ≤ k) × (k ≤ at m 5)
  pub sound : Sound m levels k
  pub covered : Covered m k lo hi

-- the child of such a node that covers a key, and what it covers: "A child covers keys from its key up to the next one; the leftmost
-- child covers those below the smallest key", the first from lo on, the last up to hi
pub data Child (m : List ℕ) (key k lo hi : ℕ) : ℕ → ℕ → ℕ → Type 0 where
  first : key < key_in m k 0 → Child m key k lo hi (leftmost m k) lo (key_in m k 0)
  next : (i : ℕ) → i + 1 < count m k → key_in m k i ≤ key → key < key_in m k (i + 1)
      → Child m key k lo hi (child_in m k i) (key_in m k i) (key_in m k (i + 1))
  last : (i : ℕ) → i + 1 ≡ count m k → key_in m k i ≤ key → Child m key k lo hi (child_in m k i) (key_in m k i) hi

-- node k is on the path of a key, with some levels below it, and covers the keys from lo up to hi. The root covers every key; the levels
-- below it are one less than the height, "a lone root leaf being 1". From an inner node with nothing of refusal 4 the path goes on with
-- the child that covers the key.
pub data OnPath (m : List ℕ) (key : ℕ) : ℕ → ℕ → ℕ → ℕ → Type 0 where
  top : OnPath m key (at m 7 - 1) (at m 6) 0 (2 ^ 64)
  down : {levels k lo hi k' lo' hi' : ℕ} → OnPath m key (suc levels) k lo hi → Fit m (suc levels) k lo hi
      → Child m key k lo hi k' lo' hi' → OnPath m key levels k' lo' hi'

-- 4: the header part; "on the path a child out of 1..used, an unsound node or a key outside its node's cover"
pub data Damaged (m : List ℕ) (key : ℕ) : Type 0 where
  header : BadCounts m → Damaged m key
  out_of_use : {levels k lo hi : ℕ} → OnPath m key levels k lo hi → Outside 1 k (at m 5) → Damaged m key
  unsound : {levels k lo hi : ℕ} → OnPath m key levels k lo hi → ¬ Sound m levels k → Damaged m key
  uncovered : {levels k lo hi : ℕ} → OnPath m key levels k lo hi → ¬ Covered m k lo hi → Damaged m key

-- the node of the path that has i levels below it is full: it has 7 entries
pub record FullAt (m : List ℕ) (key i : ℕ) : Type 0 where
  pub node : ℕ
  pub from : ℕ
  pub upto : ℕ
  pub on : OnPath m key i node from upto
  pub seven : count m node ≡ 7

-- a put splits l levels: the key is absent from its leaf, from that leaf up l nodes of the path are full, and the next one up, if there
-- is one, is not
pub record Splits (m : List ℕ) (key l : ℕ) : Type 0 where
  pub absent : {k lo hi : ℕ} → OnPath m key 0 k lo hi → (i : ℕ) → i < count m k → ¬ (key_in m k i ≡ key)
  pub some : 1 ≤ l
  pub fulls : (i : ℕ) → i < l → FullAt m key i
  pub stops : ¬ FullAt m key l

-- 5: "a split needs more nodes than capacity − used; l levels need l, or l + 1 with a new root", which is where all levels split
pub data NoRoom (m : List ℕ) (key : ℕ) : Type 0 where
  root_kept : (l : ℕ) → Splits m key l → l < at m 7 → at m 4 - at m 5 < l → NoRoom m key
  new_root : (l : ℕ) → Splits m key l → l ≡ at m 7 → at m 4 - at m 5 < l + 1 → NoRoom m key

-- 4, after 5: "a put that would split all of eight levels"
abbrev pub SplitsEight : List ℕ → ℕ → Type 0
SplitsEight m key = (at m 7 ≡ 8) × Splits m key 8

-- 6: "recover: commit word over 31, or a pair address under 5, in 8..71, or not under total". Pair i, from 0 on, has its address in word
-- 9 + 2i. With commit word 0 there is no pair, and nothing of this applies.
pub data BadLog (m : List ℕ) : Type 0 where
  many : 31 < at m 8 → BadLog m
  low : (i : ℕ) → i < at m 8 → at m (9 + 2 * i) < 5 → BadLog m
  in_log : (i : ℕ) → i < at m 8 → 8 ≤ at m (9 + 2 * i) → at m (9 + 2 * i) ≤ 71 → BadLog m
  high : (i : ℕ) → i < at m 8 → at m 1 ≤ at m (9 + 2 * i) → BadLog m

-- event n of the list: "the kind in the top byte .. with the word or line number below it"
abbrev pub kind_at : List ℕ → ℕ → ℕ
kind_at l n = at l (2 * n - 2) / 2 ^ 56

abbrev pub number_at : List ℕ → ℕ → ℕ
number_at l n = at l (2 * n - 2) % 2 ^ 56

-- 12: "no such event in the list, kind not 1..3, the word or the line's first word outside the slice". "Event n, from 1, takes words
-- 2n − 2 and 2n − 1"; "1 store, 2 flush, 3 fence"; "A line is 8 words."
pub data NoEvent (m l : List ℕ) (n : ℕ) : Type 0 where
  none : (n ≡ 0) ⊎ (length l < 2 * n) → NoEvent m l n
  kind : Outside 1 (kind_at l n) 3 → NoEvent m l n
  word : kind_at l n ≡ 1 → length m ≤ number_at l n → NoEvent m l n
  line : kind_at l n ≡ 2 → length m ≤ 8 * number_at l n → NoEvent m l n

-- The rows of each call. "Order: 9, 10, 1, then 7, 8 or 2, 3, 11, 4, 6, 5; the eight-level case of 4 after 5."

-- 7: "format: capacity outside 1..40,000"; 8: "format: slice under 72 + 16 × capacity"
abbrev pub format_rows : List ℕ → List ℕ → ℕ → Rows
format_rows m l capacity = (ShortList l, 1) ∷ (Outside 1 capacity 40000, 7) ∷ (length m < 72 + 16 * capacity, 8) ∷ []

abbrev pub recover_rows : List ℕ → List ℕ → Rows
recover_rows m l = (ShortList l, 1) ∷ (NoPool m, 2) ∷ (BadLog m, 6) ∷ []

abbrev pub fetch_rows : List ℕ → ℕ → Rows
fetch_rows m key = (NoPool m, 2) ∷ (Unfinished m, 3) ∷ (Damaged m key, 4) ∷ []

abbrev pub put_rows : List ℕ → List ℕ → ℕ → Rows
put_rows m l key =
    (ShortList l, 1) ∷ (NoPool m, 2) ∷ (Unfinished m, 3) ∷ (Damaged m key, 4) ∷ (NoRoom m key, 5) ∷ (SplitsEight m key, 4) ∷ []

abbrev pub delete_rows : List ℕ → List ℕ → ℕ → Rows
delete_rows m l key = (ShortList l, 1) ∷ (NoPool m, 2) ∷ (Unfinished m, 3) ∷ (Damaged m key, 4) ∷ []

-- 11: "check: marks shorter than capacity"; 4: "check only the header part"
abbrev pub check_rows : List ℕ → List ℕ → Rows
check_rows m marks = (NoPool m, 2) ∷ (Unfinished m, 3) ∷ (length marks < at m 4, 11) ∷ (BadCounts m, 4) ∷ []

abbrev pub carry_rows : List ℕ → List ℕ → ℕ → Rows
carry_rows m l n = (NoEvent m l n, 12) ∷ []
