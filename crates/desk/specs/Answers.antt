-- Document 01: "Where an answer is an enum, a definition gives this paper's number and values for each of its cases, and the promises use
-- that definition": the answers of submit and turn.
use Rattle.std.specs.Prelude.{[], ◌∷◌, Result, Ok, Err}
use Rattle.words.specs.declared.refusal.Refusal.{Refusal}
use Rattle.words.specs.Kinds as k
use Rattle.words.specs.Answers.{Said, refused}
use Rattle.change.specs.Answers.{outcome_says}
use Rattle.desk.specs.declared.answer.Turned.{Turned}
use Rattle.desk.specs.declared.answer.Turned.TheVariants.{Served, Idle}
use Rattle.desk.specs.declared.answer.Turn.{Turn}

-- "Submit fills an empty one", or 9 or 10
abbrev pub submit_says : Result Unit Refusal → Said
submit_says (Ok x) = (k.accepted, 0, [])
submit_says (Err why) = refused why

-- served, with the outcome of the member's request ("Inside a turn 2 to 5 become the member's answer"), Idle, or the refusal of the turn
-- itself
abbrev pub turned_says : Result Turned Refusal → Said
turned_says (Ok (Served o)) = let s = outcome_says o in (k.served, s.1, s.0 ∷ s.2)
turned_says (Ok Idle) = (k.idle, 0, [])
turned_says (Err why) = refused why

-- "answers with member, outcome, event count and new last served"
abbrev pub turn_says : Turn → Said
turn_says t = let s = turned_says t.turned in (s.0, s.1, t.member ∷ t.events ∷ t.last ∷ s.2)
