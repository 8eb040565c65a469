-- What the functions under a turn do, and a turn's steps one by one. The promise of turn does not rest on these.
use Rattle.std.specs.Prelude.{ℕ, ◌-◌, List, Option, Result, Ok, Err, not, ◌&&◌, length, ltb, option_map, if◌then◌else◌}
use Rattle.words.specs.Pool.{list_words}
use Rattle.words.specs.declared.refusal.Refusal.{Refusal}
use Rattle.words.specs.declared.refusal.Refusal.TheVariants.{ShortList, NoDesk}
use Rattle.change.specs.declared.Request.{Request}
use Rattle.change.specs.declared.Answer.{Answer}
use Rattle.change.specs.Gate.{outcome_of, events_of}
use Rattle.desk.specs.declared.answer.Turned.TheVariants.{Served}
use Rattle.desk.specs.declared.answer.Turn.{Turn}
use Rattle.desk.specs.declared.steps.Chosen.{Chosen}
use Rattle.desk.specs.Desk.{Desk, full, held, may_turn, choose}

-- the place of a member's desk and the request that it holds; of nobody, as of an empty desk, none
abbrev pub found : List Desk → ℕ → Option (ℕ × Request)
found ds member = option_map (λ q. (member - 1, q)) (held ds member)

-- the desk that a turn serves, unless it is refused: 9, then 1
unfoldable pub chosen : List ℕ → List Desk → ℕ → Result (Option (ℕ × Request)) Refusal
chosen l ds last =
    if not (may_turn (length ds) last) then Err NoDesk
    else if ltb (length l) list_words then Err ShortList
    else Ok (found ds (choose ds last))

-- the answer of a member served
abbrev pub served : ℕ → Result Answer Refusal → Turn
served member a =
    record { turned = Ok (Served (outcome_of a)); member = member; events = events_of a; last = member }

-- one desk more is looked at: the first full one stays
abbrev pub noted : Chosen → ℕ → Desk → Chosen
noted found member d = if not (full found.desk) && full d then record { member = member; desk = d } else found
