-- Document 01, "Words and counts": the slot word.
use Rattle.std.specs.Prelude.{ℕ, zero, suc, ◌+◌, ◌*◌, ◌/◌, ◌%◌, List, [], ◌∷◌, length}
use Rattle.node.specs.Lists.{lowest_from}

-- what a byte counts
abbrev pub byte : ℕ
byte = 256

-- the lowest n bytes of a word, from the lowest, and the word of some bytes
unfoldable pub bytes : ℕ → ℕ → List ℕ
bytes zero w = []
bytes (suc n) w = w % byte ∷ bytes n (w / byte)

unfoldable pub word_of : List ℕ → ℕ
word_of [] = 0
word_of (b ∷ bs) = word_of bs * byte + b

-- "its lowest byte is the count, 0 to 7"
abbrev pub count : ℕ → ℕ
count w = w % byte

-- "and the next bytes name the entries 0 to 6 in rising order of key"; "bytes past the count are .. ignored on reading"
unfoldable pub names : ℕ → List ℕ
names w = bytes (count w) (w / byte)

-- the slot word of some names: "bytes past the count are written zero"
unfoldable pub slot : List ℕ → ℕ
slot ns = word_of (length ns ∷ ns)

-- a node has the entries 0 to 6
abbrev pub entries : ℕ
entries = 7

-- "the lowest-numbered unused entry" beside the named ones. Whoever opens it sees it computed.
unfoldable pub spot : List ℕ → ℕ
unfolding lowest_from
spot ns = lowest_from 0 entries ns
