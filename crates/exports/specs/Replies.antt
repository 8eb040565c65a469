-- What an exported call answers: each answer of document 01 as words, by kind, count and number.
use Rattle.std.specs.Prelude.{ℕ, Result, Ok, Err}
use Rattle.words.specs.Refusals.{number}
use Rattle.words.specs.declared.refusal.Refusal.{Refusal}
use Rattle.change.specs.declared.Outcome.{Outcome}
use Rattle.change.specs.declared.Outcome.TheVariants as o
use Rattle.change.specs.declared.Answer.{Answer}
use Rattle.change.specs.declared.Recovery.{Recovery}
use Rattle.change.specs.declared.Recovery.TheVariants as r
use Rattle.change.specs.declared.Checked.{Checked}
use Rattle.change.specs.declared.Checked.TheVariants as c
use Rattle.change.specs.Gate.{outcome_of, events_of}
use Rattle.exports.specs.declared.reply.Reply.{Reply}
use Rattle.exports.specs.declared.reply.Verdict.{Verdict}
use Rattle.exports.specs.declared.reply.Kind.{Kind}
use Rattle.exports.specs.declared.reply.Kind.TheVariants as kinds
use Rattle.words.specs.Kinds as k

-- the number of a kind
abbrev pub kind_number : Kind → ℕ
kind_number kinds.Refused = k.refused
kind_number kinds.New = k.new
kind_number kinds.Replaced = k.replaced
kind_number kinds.Removed = k.removed
kind_number kinds.Absent = k.absent
kind_number kinds.Found = k.found
kind_number kinds.Formatted = k.formatted
kind_number kinds.Clean = k.clean
kind_number kinds.Recovered = k.recovered
kind_number kinds.Sound = k.sound
kind_number kinds.Fault = k.fault
kind_number kinds.Done = k.done
kind_number kinds.Accepted = k.accepted
kind_number kinds.Idle = k.idle

-- a kind, the events planned, and a value
abbrev pub plain : ℕ → ℕ → ℕ → Reply
plain kind events value = record { kind = kind; events = events; value = value }

-- "Numbers of refusal": the number; "and counts 0 events"
abbrev pub refused : Refusal → Reply
refused why = plain k.refused 0 (number why)

-- "Fetch answers found or absent, put new or replaced, delete removed or absent", with a count of events
abbrev pub outcome_reply : Result Outcome Refusal → ℕ → Reply
outcome_reply (Ok o.New) events = plain k.new events 0
outcome_reply (Ok o.Replaced) events = plain k.replaced events 0
outcome_reply (Ok o.Removed) events = plain k.removed events 0
outcome_reply (Ok o.Absent) events = plain k.absent events 0
outcome_reply (Ok (o.Found value)) events = plain k.found events value
outcome_reply (Err why) events = refused why

-- put and delete: the outcome, and the events planned for it
abbrev pub answer_reply : Result Answer Refusal → Reply
answer_reply answer = outcome_reply (outcome_of answer) (events_of answer)

-- format: the events planned
abbrev pub format_reply : Result ℕ Refusal → Reply
format_reply (Ok events) = plain k.formatted events 0
format_reply (Err why) = refused why

-- recover: "Clean, no events", or "Recovered with the pair count c", the events planned and the pairs
abbrev pub recovery_reply : Result Recovery Refusal → Reply
recovery_reply (Ok r.Clean) = plain k.clean 0 0
recovery_reply (Ok (r.Recovered pairs events)) = plain k.recovered events pairs
recovery_reply (Err why) = refused why

-- a call that tells no more than that it is done: a kind, and the events that it counts
abbrev pub done_reply : Result (Unit {0}) Refusal → ℕ → ℕ → Reply
done_reply (Ok _) kind events = plain kind events 0
done_reply (Err why) kind events = refused why

-- carrying out one event: done, with that event counted
abbrev pub carried_reply : Result (Unit {0}) Refusal → Reply
carried_reply carried = done_reply carried k.done 1

-- of a check: a kind, a number of nodes, of a node or of a refusal, and the records
abbrev pub plain_verdict : ℕ → ℕ → ℕ → Verdict
plain_verdict kind number records = record { kind = kind; number = number; records = records }

-- check: "Sound (nodes, records)", "or Fault with the first met", the node that is named
abbrev pub verdict : Result Checked Refusal → Verdict
verdict (Ok (c.Sound nodes records)) = plain_verdict k.sound nodes records
verdict (Ok (c.Fault node)) = plain_verdict k.fault node 0
verdict (Err why) = plain_verdict k.refused (number why) 0
