-- Document 01: "Where an answer is an enum, a definition gives this paper's number and values for each of its cases, and the promises use
-- that definition": the answers of the calls on a pool.
use Rattle.std.specs.Prelude.{ℕ, [], ◌∷◌, Result, Ok, Err}
use Rattle.words.specs.Kinds as k
use Rattle.words.specs.Answers.{Said, refused}
use Rattle.words.specs.declared.refusal.Refusal.{Refusal}
use Rattle.change.specs.declared.Outcome.{Outcome}
use Rattle.change.specs.declared.Outcome.TheVariants as o
use Rattle.change.specs.declared.Answer.{Answer}
use Rattle.change.specs.declared.Recovery.{Recovery}
use Rattle.change.specs.declared.Recovery.TheVariants as r
use Rattle.change.specs.declared.Checked.{Checked}
use Rattle.change.specs.declared.Checked.TheVariants as c
use Rattle.change.specs.Gate.{outcome_of, events_of}

-- "Fetch answers found or absent, put new or replaced, delete removed or absent"; "found:value, refused:number"
abbrev pub outcome_says : Result Outcome Refusal → Said
outcome_says (Ok o.New) = (k.new, 0, [])
outcome_says (Ok o.Replaced) = (k.replaced, 0, [])
outcome_says (Ok o.Removed) = (k.removed, 0, [])
outcome_says (Ok o.Absent) = (k.absent, 0, [])
outcome_says (Ok (o.Found value)) = (k.found, 0, value ∷ [])
outcome_says (Err why) = refused why

-- the outcome's, then the event count: "Each [refusal] .. counts 0 events"
abbrev pub answer_says : Result Answer Refusal → Said
answer_says a = let s = outcome_says (outcome_of a) in (s.0, s.1, events_of a ∷ s.2)

-- "Format: .. 20 events"
abbrev pub format_says : Result ℕ Refusal → Said
format_says (Ok events) = (k.formatted, 0, events ∷ [])
format_says (Err why) = refused why

-- "Clean, no events. Otherwise .. Recovered with the pair count c, 2c + 4 events"
abbrev pub recovery_says : Result Recovery Refusal → Said
recovery_says (Ok r.Clean) = (k.clean, 0, 0 ∷ 0 ∷ [])
recovery_says (Ok (r.Recovered pairs events)) = (k.recovered, 0, pairs ∷ events ∷ [])
recovery_says (Err why) = refused why

-- "It answers Sound (nodes, records), .. or Fault with the first met"
abbrev pub check_says : Result Checked Refusal → Said
check_says (Ok (c.Sound nodes records)) = (k.sound, 0, nodes ∷ records ∷ [])
check_says (Ok (c.Fault node)) = (k.fault, 0, node ∷ [])
check_says (Err why) = refused why
