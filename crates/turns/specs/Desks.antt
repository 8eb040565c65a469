-- Desks as records: each is a kind, a key and a value, document 01's "lent list of records, one for each member".
use Rattle.std.specs.Prelude.{ℕ, List, map, eqb, Some, None, if◌then◌else◌}
use Rattle.change.specs.declared.Request.{Request}
use Rattle.change.specs.declared.Request.TheVariants.{Put, Fetch, Delete}
use Rattle.desk.specs.Desk.{Desk, with_desk}
use Rattle.desk.specs.Promises.{laid}
use Rattle.desk.specs.Turn.{turn}
use Rattle.turns.specs.declared.record.DeskRecord.{DeskRecord}

-- the kinds of record
abbrev pub nothing : ℕ
nothing = 0

abbrev pub put : ℕ
put = 1

abbrev pub fetch : ℕ
fetch = 2

abbrev pub delete : ℕ
delete = 3

-- "each empty or holding one put, fetch or delete": a record of any other kind is an empty desk
abbrev pub desk_of : DeskRecord → Desk
desk_of r =
    if eqb r.kind put then Some (Put r.key r.value)
    else if eqb r.kind fetch then Some (Fetch r.key)
    else if eqb r.kind delete then Some (Delete r.key)
    else None

-- a list of records, read as desks
abbrev pub desks_of : List DeskRecord → List Desk
desks_of rs = map desk_of rs

-- the record that holds a request, or of an empty desk
abbrev pub record_of : Desk → DeskRecord
record_of None = record { kind = nothing; key = 0; value = 0 }
record_of (Some (Put key value)) = record { kind = put; key = key; value = value }
record_of (Some (Fetch key)) = record { kind = fetch; key = key; value = 0 }
record_of (Some (Delete key)) = record { kind = delete; key = key; value = 0 }

-- "Submit fills an empty one.": the records after a submit of this request
abbrev pub submit_records : List DeskRecord → ℕ → Request → List DeskRecord
submit_records rs member q = laid desks_of record_of rs member q

-- "empties the desk" of the member that it answers: the records after a turn
abbrev pub turn_records : List ℕ → List ℕ → List DeskRecord → ℕ → List DeskRecord
turn_records m l rs last = with_desk rs (turn m l (desks_of rs) last).answer.member (record_of None)
