-- Document 01, "Delete", with refusals 1 to 4.
use Rattle.std.specs.Prelude.{ℕ, List, if◌then◌else◌, Ok}
use Rattle.words.specs.Blocks.{once}
use Rattle.node.specs.Lists.{has}
use Rattle.node.specs.View.{view, keys, slot_at}
use Rattle.tree.specs.Path.{way_to}
use Rattle.change.specs.declared.Outcome.{Outcome}
use Rattle.change.specs.declared.Outcome.TheVariants.{Removed, Absent}
use Rattle.change.specs.Gate.{Planned, quiet, refused, past_list, past_gate, at_leaf}
use Rattle.change.specs.Steps.{removed_slot}

-- at leaf k: "new slot word, flush, fence. Leaves may become empty and stay." "An absent key answers Absent with no events."
unfoldable pub delete_at : List ℕ → ℕ → ℕ → List ℕ → Planned Outcome
delete_at m key k above =
    let u = view m k in
    if has key (keys u.records) then record { answer = Ok Removed; events = once (slot_at k) (removed_slot u key) }
    else quiet Absent

-- 1, 2, 3, 4, then removed or absent
abbrev pub delete : ℕ → List ℕ → ℕ → Planned Outcome
delete room m key = past_list refused room (past_gate refused m (at_leaf (delete_at m key) (way_to m key)))
