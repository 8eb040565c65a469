-- Document 01, "Words and counts": the fields of the header and their rules.
use Rattle.std.specs.Prelude.{ℕ, List, Bool, ◌&&◌, length, leb, eqb}
use Rattle.words.specs.Tests.{within}
use Rattle.words.specs.Pool as p
use Rattle.words.specs.Event.{at}

-- "Header, words 0 to 7: form number (1), total words, .."
abbrev pub total_in : List ℕ → ℕ
total_in m = at m p.total_at

-- "capacity"
abbrev pub capacity_of : List ℕ → ℕ
capacity_of m = at m p.capacity_at

-- "used": the nodes 1 to used are in use
abbrev pub used_of : List ℕ → ℕ
used_of m = at m p.used_at

-- "root": the number of the root
abbrev pub root_of : List ℕ → ℕ
root_of m = at m p.root_at

-- "height": the levels of the tree
abbrev pub height_of : List ℕ → ℕ
height_of m = at m p.height_at

-- "Log, words 8 to 71: a commit word, .."
abbrev pub commit_of : List ℕ → ℕ
commit_of m = at m p.commit_at

-- not refusal 2: "slice under 88 words; word 0 not 1; words 1 to 4 break their rules; slice under total"
unfoldable pub form_agrees : List ℕ → Bool
form_agrees m =
    leb p.words_least (length m)
    && eqb (at m p.form_at) p.form
    && within 1 (capacity_of m) p.capacity_most
    && eqb (total_in m) (p.total_of (capacity_of m))
    && eqb (at m p.log_offset_at) p.log_at
    && eqb (at m p.nodes_offset_at) p.nodes_at
    && leb (total_in m) (length m)

-- not the header part of refusal 4: "used not 1..capacity; root not 1..used; height not 1..8"
unfoldable pub counts_agree : List ℕ → Bool
counts_agree m =
    within 1 (used_of m) (capacity_of m)
    && within 1 (root_of m) (used_of m)
    && within 1 (height_of m) p.height_most
