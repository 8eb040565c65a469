-- Document 01, "Put, key present", "Put, leaf not full" and "Put, leaf full", with refusals 1 to 5.
use Rattle.std.specs.Prelude.{ℕ, suc, ◌+◌, ◌-◌, List, [], ◌∷◌, ◌++◌, not, get_or, ltb, if◌then◌else◌, Ok}
use Rattle.words.specs.Pool.{used_at, root_at, height_at, height_most}
use Rattle.words.specs.declared.event.Event.{Event}
use Rattle.words.specs.declared.event.Event.TheVariants.{Fence as fence}
use Rattle.words.specs.Blocks.{once, stored}
use Rattle.words.specs.declared.refusal.Refusal.TheVariants.{Damaged, NoRoom}
use Rattle.node.specs.Lists.{has}
use Rattle.node.specs.View.{Record, View, view, keys, rank, slot_at, link_at, value_at}
use Rattle.tree.specs.Header.{capacity_of, used_of, root_of, height_of}
use Rattle.tree.specs.Path.{way_to}
use Rattle.tree.specs.Halves.{upper_four, fifth, upper_three, supply, used_with}
use Rattle.change.specs.declared.Outcome.{Outcome}
use Rattle.change.specs.declared.Outcome.TheVariants.{New, Replaced}
use Rattle.change.specs.Gate.{Planned, refused, past_list, past_gate, at_leaf}
use Rattle.change.specs.Steps.{full, entry_pairs, taken_slot, fill_spot, parent_spot, new_node, staying_pairs}
use Rattle.change.specs.Plan.{Plan, plan_events}

-- "Put, key present: store the value, flush, fence."
abbrev pub replace_events : ℕ → View → Record → List Event
replace_events k u r = once (value_at k (get_or u.named (rank u r.0) 0)) r.1

-- "Put, leaf not full: key and value into the lowest-numbered unused entry, flush, fence, slot word, flush, fence."
abbrev pub fill_events : ℕ → View → Record → List Event
fill_events k u r = stored (entry_pairs k (fill_spot u) r) ++ (fence ∷ once (slot_at k) (taken_slot u r.0 (fill_spot u)))

-- a key and the child that it goes up with, into the levels above, with i new nodes made so far. "A split that finds the parent full
-- splits it by the same rule: lower 4 entries stay, the fifth's key goes up and its child becomes the new node's leftmost, the upper 3
-- go over. A full root gets a new root above it, leftmost child the old root." The pairs: "then key, child (lowest unused entry), slot
-- word of the parent that took the last one; then used; then, for a new root, root and height".
unfoldable pub rise : List ℕ → List ℕ → Record → ℕ → Plan
rise m [] up i =
    let new = supply (used_of m) i in
    record {
      nodes = new_node new (root_of m) (up ∷ []) ∷ [];
      pairs = (used_at, used_with (used_of m) (i + 1)) ∷ (root_at, new) ∷ (height_at, height_of m + 1) ∷ [];
    }
rise m (k ∷ above) up i =
    let u = view m k in
    let new = supply (used_of m) i in
    let rest = rise m above ((fifth u up).0, new) (i + 1) in
    let splits : Plan = record {
      nodes = new_node new (fifth u up).1 (upper_three u up) ∷ rest.nodes;
      pairs = staying_pairs k u up [] ++ rest.pairs;
    } in
    let takes : Plan = record {
      nodes = [];
      pairs = entry_pairs k (parent_spot u) up
          ++ ((slot_at k, taken_slot u up.0 (parent_spot u)) ∷ (used_at, used_with (used_of m) i) ∷ []);
    } in
    if full u then splits else takes

-- "of the 8 records the lower 4 stay and the upper 4 go to a new leaf, whose smallest key goes up"
unfoldable pub split : List ℕ → ℕ → List ℕ → Record → Plan
split m k above r =
    let u = view m k in
    let new = supply (used_of m) 0 in
    let rest = rise m above ((fifth u r).0, new) 1 in
    record {
      nodes = new_node new u.link (upper_four u r) ∷ rest.nodes;
      pairs = staying_pairs k u r ((link_at k, new) ∷ []) ++ rest.pairs;
    }

-- 5: "l levels need l, or l + 1 with a new root", over the levels from the leaf up
unfoldable pub needed : List ℕ → List ℕ → ℕ
needed m [] = 1
needed m (k ∷ above) = let more = needed m above in if full (view m k) then suc more else 0

-- at leaf k: present, not full, or full. Then 5, "a split needs more nodes than capacity − used", and after it 4, "a put that would
-- split all of eight levels", which is one that needs more than eight nodes
unfoldable pub put_at : List ℕ → ℕ → ℕ → ℕ → List ℕ → Planned Outcome
put_at m key value k above =
    let u = view m k in
    let splitting = plan_events (split m k above (key, value)) in
    if has key (keys u.records) then record { answer = Ok Replaced; events = replace_events k u (key, value) }
    else if not (full u) then record { answer = Ok New; events = fill_events k u (key, value) }
    else if ltb (capacity_of m - used_of m) (needed m (k ∷ above)) then refused NoRoom
    else if ltb height_most (needed m (k ∷ above)) then refused Damaged
    else record { answer = Ok New; events = splitting }

-- 1, 2, 3, 4, then new or replaced, or 5
abbrev pub put : ℕ → List ℕ → ℕ → ℕ → Planned Outcome
put room m key value = past_list refused room (past_gate refused m (at_leaf (put_at m key value) (way_to m key)))
