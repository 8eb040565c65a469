-- Document 01, "Words and counts": the offsets, bounds and sizes of a pool. The type `Pool` of the code has the same numbers
-- under the same names, and `named_once` there proves them equal.
use Rattle.std.specs.Prelude.{ℕ, ◌+◌, ◌-◌, ◌*◌, ◌/◌}

-- "A line is 8 words."
abbrev pub line_words : ℕ
line_words = 8

-- "Header, words 0 to 7: form number (1), total words, log offset (8), nodes offset (72), capacity, used, root, height."
abbrev pub form_at : ℕ
form_at = 0

abbrev pub total_at : ℕ
total_at = 1

abbrev pub log_offset_at : ℕ
log_offset_at = 2

abbrev pub nodes_offset_at : ℕ
nodes_offset_at = 3

abbrev pub capacity_at : ℕ
capacity_at = 4

abbrev pub used_at : ℕ
used_at = 5

abbrev pub root_at : ℕ
root_at = 6

abbrev pub height_at : ℕ
height_at = 7

abbrev pub form : ℕ
form = 1

-- "Log, words 8 to 71: a commit word, then up to 31 pairs (word address, value)."
abbrev pub log_at : ℕ
log_at = 8

abbrev pub commit_at : ℕ
commit_at = log_at

abbrev pub pairs_at : ℕ
pairs_at = 9

abbrev pub pairs_most : ℕ
pairs_most = 31

abbrev pub nodes_at : ℕ
nodes_at = 72

abbrev pub node_words : ℕ
node_words = 16

-- "Total = 72 + 16 × capacity; capacity is 1 to 40,000."
abbrev pub capacity_most : ℕ
capacity_most = 40000

abbrev pub total_of : ℕ → ℕ
total_of capacity = nodes_at + node_words * capacity

-- refusal 2: "slice under 88 words", the total of one node
abbrev pub words_least : ℕ
words_least = 88

-- "Nodes are numbered from 1; node k starts at word 56 + 16k."
abbrev pub node_at : ℕ → ℕ
node_at k = nodes_at - node_words + node_words * k

-- "height 1 to 8, a lone root leaf being 1"
abbrev pub height_most : ℕ
height_most = 8

-- refusal 1: "event list under 372 words", two for each of the 186 events of the largest split
abbrev pub list_words : ℕ
list_words = 372

abbrev pub events_most : ℕ
events_most = 186

-- the line that a word lies in
abbrev pub line : ℕ → ℕ
line w = w / line_words
