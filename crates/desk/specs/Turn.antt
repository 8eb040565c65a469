-- Document 01, "Desks": what submit and turn answer, and what they leave in the desks, the pool and the list.
use Rattle.std.specs.Prelude.{ℕ, List, [], ◌∷◌, not, length, ltb, if◌then◌else◌, Some, None, Result, Ok, Err}
use Rattle.words.specs.Pool.{list_words}
use Rattle.words.specs.Carry.{after_all}
use Rattle.words.specs.declared.refusal.Refusal.{Refusal}
use Rattle.words.specs.declared.refusal.Refusal.TheVariants.{ShortList, NoDesk, FullDesk}
use Rattle.change.specs.declared.Request.{Request}
use Rattle.change.specs.Gate.{outcome_of, events_of}
use Rattle.change.specs.Calls.{serve_answer, serve_list}
use Rattle.desk.specs.declared.answer.Turned.{Turned}
use Rattle.desk.specs.declared.answer.Turned.TheVariants.{Served, Idle}
use Rattle.desk.specs.declared.answer.Turn.{Turn}
use Rattle.desk.specs.Desk.{Desk, fresh, full, held, with_desk, may_submit, may_turn, accepts, choose}

-- submit: 9, then 10
unfoldable pub submit_answer : List Desk → ℕ → Result Unit Refusal
submit_answer ds member =
    if not (may_submit (length ds) member) then Err NoDesk
    else if full (held ds member) then Err FullDesk
    else Ok tt

-- "Submit fills an empty one."
unfoldable pub submit_desks : List Desk → ℕ → Request → List Desk
submit_desks ds member q = if accepts ds member then with_desk ds member (Some q) else ds

-- what a turn answers, and the pool and the list after it
pub record Left : Type 0 where
  pub answer : Turn
  pub pool : List ℕ
  pub list : List ℕ

-- "member 0, 0 events, last served as handed"
abbrev pub unserved : ℕ → Result Turned Refusal → Turn
unserved last turned = record { turned = turned; member = 0; events = 0; last = last }

-- "Each leaves everything lent unchanged and counts 0 events."
abbrev pub as_handed : List ℕ → List ℕ → ℕ → Result Turned Refusal → Left
as_handed m l last turned = record { answer = unserved last turned; pool = m; list = l }

-- "serves .. carries out all its events .. and answers with member, outcome, event count and new last served, which is that member
-- even if refused"; "With none full .. Idle"
abbrev pub serve_desk : List ℕ → List ℕ → ℕ → ℕ → Desk → Left
serve_desk m l last member None = as_handed m l last (Ok Idle)
serve_desk m l last member (Some q) =
    let a = serve_answer m l q in
    let l' = serve_list m l q in
    record {
      answer = record { turned = Ok (Served (outcome_of a)); member = member; events = events_of a; last = member };
      pool = after_all m l' 1 (events_of a);
      list = l';
    }

-- 9, then 1: "event list under 372 words (.. turn)"; otherwise this member's desk is served
unfoldable pub serve_turn : List ℕ → List ℕ → ℕ → ℕ → ℕ → Desk → Left
serve_turn m l desks last member desk =
    if not (may_turn desks last) then as_handed m l last (Err NoDesk)
    else if ltb (length l) list_words then as_handed m l last (Err ShortList)
    else serve_desk m l last member desk

abbrev pub turn : List ℕ → List ℕ → List Desk → ℕ → Left
turn m l ds last = let member = choose ds last in serve_turn m l (length ds) last member (held ds member)

-- "empties the desk" of the member that it answers
abbrev pub turn_desks : List ℕ → List ℕ → List Desk → ℕ → List Desk
turn_desks m l ds last = with_desk ds (turn m l ds last).answer.member fresh

-- of a caller with one member and so one desk: a submit to it, then a turn
abbrev pub ask : List ℕ → List ℕ → Desk → ℕ → Request → Left
ask m l desk last q = turn m l (submit_desks (desk ∷ []) 1 q) last

abbrev pub ask_desks : List ℕ → List ℕ → Desk → ℕ → Request → List Desk
ask_desks m l desk last q = turn_desks m l (submit_desks (desk ∷ []) 1 q) last
