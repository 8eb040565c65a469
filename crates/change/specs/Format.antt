-- Document 01, "Format", with refusals 1, 7 and 8.
use Rattle.std.specs.Prelude.{ℕ, List, [], ◌∷◌, ◌++◌, not, length, ltb, if◌then◌else◌, Ok}
use Rattle.words.specs.Tests.{within}
use Rattle.words.specs.Pool as p
use Rattle.words.specs.declared.event.Event.{Event}
use Rattle.words.specs.declared.event.Event.TheVariants.{Fence as fence}
use Rattle.words.specs.Blocks.{Pair, once, stored}
use Rattle.words.specs.declared.refusal.Refusal.TheVariants.{BadCapacity, ShortSlice}
use Rattle.node.specs.View.{slot_at, link_at}
use Rattle.change.specs.Gate.{Planned, refused, past_list}

-- "words 1 to 7 (total, 8, 72, capacity, 1, 1, 1), word 8 and words 72 and 73 (all 0)"
abbrev pub fresh_words : ℕ → List Pair
fresh_words capacity =
    (p.total_at, p.total_of capacity) ∷ (p.log_offset_at, p.log_at) ∷ (p.nodes_offset_at, p.nodes_at) ∷ (p.capacity_at, capacity)
    ∷ (p.used_at, 1) ∷ (p.root_at, 1) ∷ (p.height_at, 1) ∷ (p.commit_at, 0) ∷ (slot_at 1, 0) ∷ (link_at 1, 0) ∷ []

-- "store 0 to word 0, flush, fence; store [those]; flush lines 0, 1, 9; fence; store 1 to word 0, flush, fence"
unfoldable pub format_events : ℕ → List Event
format_events capacity = once p.form_at 0 ++ (stored (fresh_words capacity) ++ (fence ∷ once p.form_at p.form))

-- 7, "format: capacity outside 1..40,000"; 8, "format: slice under 72 + 16 × capacity"
unfoldable pub format_past_list : ℕ → ℕ → Planned ℕ
format_past_list size capacity =
    let es = format_events capacity in
    if not (within 1 capacity p.capacity_most) then refused BadCapacity
    else if ltb size (p.total_of capacity) then refused ShortSlice
    else record { answer = Ok (length es); events = es }

-- 1, then 7, 8. What is lent has `room` words in the list and `size` words in the slice, and format reads none of either.
abbrev pub format : ℕ → ℕ → ℕ → Planned ℕ
format room size capacity = past_list refused room (format_past_list size capacity)
