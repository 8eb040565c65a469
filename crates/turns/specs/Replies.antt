-- What the exported submit and turn answer, as words.
use Rattle.std.specs.Prelude.{ℕ, Result, Ok, Err}
use Rattle.words.specs.declared.refusal.Refusal.{Refusal}
use Rattle.desk.specs.declared.answer.Turned.{Turned}
use Rattle.desk.specs.declared.answer.Turned.TheVariants.{Served, Idle}
use Rattle.desk.specs.declared.answer.Turn.{Turn}
use Rattle.exports.specs.declared.reply.Reply.{Reply}
use Rattle.words.specs.Kinds as k
use Rattle.exports.specs.Replies.{plain, refused, outcome_reply, done_reply}
use Rattle.turns.specs.declared.replies.TurnReply.{TurnReply}

-- submit: "Submit fills an empty one", or 9 or 10
abbrev pub submitted_reply : Result Unit Refusal → Reply
submitted_reply submitted = done_reply submitted k.accepted 0

-- the member's outcome, Idle, or the refusal of the turn itself
abbrev pub turned_reply : Result Turned Refusal → ℕ → Reply
turned_reply (Ok (Served outcome)) events = outcome_reply outcome events
turned_reply (Ok Idle) events = plain k.idle events 0
turned_reply (Err why) events = refused why

-- turn: "answers with member, outcome, event count and new last served"
abbrev pub turn_reply : Turn → TurnReply
turn_reply turn =
    let reply = turned_reply turn.turned turn.events in
    record { kind = reply.kind; member = turn.member; events = reply.events; last = turn.last; value = reply.value }
