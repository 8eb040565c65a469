-- What a call answers and plans, the refusals that stand before every body, and what is left in the lent list.
use Rattle.std.specs.Prelude.{ℕ, List, [], not, length, ltb, eqb, if◌then◌else◌, Result, Ok, Err}
use Rattle.words.specs.Pool.{list_words}
use Rattle.words.specs.declared.event.Event.{Event}
use Rattle.words.specs.Written.{written}
use Rattle.words.specs.declared.refusal.Refusal.{Refusal}
use Rattle.words.specs.declared.refusal.Refusal.TheVariants.{ShortList, NoPool, Unfinished, Damaged}
use Rattle.tree.specs.Header.{commit_of, form_agrees}
use Rattle.tree.specs.Path.{Way, failed, leaf}
use Rattle.change.specs.declared.Outcome.{Outcome}
use Rattle.change.specs.declared.Answer.{Answer}

-- an answer or a refusal, and the events planned with it
pub record Planned (A : Type 0) : Type 0 where
  pub answer : Result A Refusal
  pub events : List Event

-- an answer with no events
abbrev pub quiet : {A : Type 0} → A → Planned A
quiet a = record { answer = Ok a; events = [] }

-- "Each leaves everything lent unchanged and counts 0 events."
abbrev pub refused : {A : Type 0} → Refusal → Planned A
refused why = record { answer = Err why; events = [] }

-- "Planning writes only the list, and of it only its events' words": the lent list after the call
abbrev pub list_after : {A : Type 0} → Planned A → List ℕ → List ℕ
list_after p l = written p.events 0 l

-- an outcome with an event count; a refusal counts none
abbrev pub with_count : Result Outcome Refusal → ℕ → Result Answer Refusal
with_count (Ok outcome) events = Ok (record { outcome = outcome; events = events })
with_count (Err why) events = Err why

-- the outcome and the event count
abbrev pub answered : Planned Outcome → Result Answer Refusal
answered p = with_count p.answer (length p.events)

-- the outcome of an answer
abbrev pub outcome_of : Result Answer Refusal → Result Outcome Refusal
outcome_of (Ok answer) = Ok answer.outcome
outcome_of (Err why) = Err why

-- and its event count
abbrev pub events_of : Result Answer Refusal → ℕ
events_of (Ok answer) = answer.events
events_of (Err why) = 0

module _ {A : Type 0} (refuse : Refusal → A) where
  -- 1: "event list under 372 words"
  abbrev pub past_list : ℕ → A → A
  past_list room body = if ltb room list_words then refuse ShortList else body

  -- 2: "slice under 88 words; word 0 not 1; words 1 to 4 break their rules; slice under total"
  abbrev pub past_form : List ℕ → A → A
  past_form m body = if not (form_agrees m) then refuse NoPool else body

  -- 2, then 3: "commit word not 0 (fetch, put, delete, check)"
  abbrev pub past_gate : List ℕ → A → A
  past_gate m body = past_form m (if not (eqb (commit_of m) 0) then refuse Unfinished else body)

-- 4 of the header and the path (fetch, put, delete); otherwise what is done at the leaf, with the nodes above it
abbrev pub at_leaf : (ℕ → List ℕ → Planned Outcome) → Way → Planned Outcome
at_leaf body (failed node) = refused Damaged
at_leaf body (leaf k above) = body k above
