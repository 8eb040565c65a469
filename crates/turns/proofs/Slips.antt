-- Slips in the record of a desk and in the reply to a turn.
use mathlib.Core.Path.{◌≡◌, refl}
use Rattle.std.specs.Prelude.{None, Ok}
use Rattle.desk.specs.declared.answer.Turned.TheVariants.{Idle}
use Rattle.desk.specs.Turn.{unserved}
use Rattle.turns.specs.Desks.{desk_of}
use Rattle.turns.specs.Replies.{turn_reply}

-- a record of another kind than put, fetch and delete is taken for a request
pub other_kinds : desk_of (record { kind = 4; key = 7; value = 70 }) ≡ None
other_kinds = refl

-- an idle turn answers member 0 as the last served, not what it was handed
pub last_kept : (turn_reply (unserved 3 (Ok Idle))).last ≡ 3
last_kept = refl
