-- "Every public call promises its answer and each word of pool, list .. and desks for all inputs, refusals too": the exported calls on
-- desks. Pool, list and records are m, l and rs before the call, and m', l' and rs' after it; r is the reply, in words.
use Rattle.std.specs.Prelude.{ℕ, ◌≡◌, List}
use Rattle.words.specs.Carry.{CarryAllPromise}
use Rattle.change.specs.declared.Request.{Request}
use Rattle.desk.specs.Turn.{submit_answer, turn}
use Rattle.exports.specs.declared.reply.Reply.{Reply}
use Rattle.turns.specs.declared.record.DeskRecord.{DeskRecord}
use Rattle.turns.specs.declared.replies.TurnReply.{TurnReply}
use Rattle.turns.specs.Replies.{submitted_reply, turn_reply}
use Rattle.turns.specs.Desks as d

-- the three submits, a put, a fetch or a delete
abbrev pub SubmitPromise : List DeskRecord → ℕ → Request → Reply → List DeskRecord → Type 0
SubmitPromise rs member q r rs' =
    (r ≡ submitted_reply (submit_answer (d.desks_of rs) member)) × (rs' ≡ d.submit_records rs member q)

abbrev pub TurnPromise : List ℕ → List ℕ → List DeskRecord → ℕ → TurnReply → List ℕ → List ℕ → List DeskRecord → Type 0
TurnPromise m l rs last r m' l' rs' =
    (r ≡ turn_reply (turn m l (d.desks_of rs) last).answer) × (m' ≡ (turn m l (d.desks_of rs) last).pool)
    × (l' ≡ (turn m l (d.desks_of rs) last).list) × (rs' ≡ d.turn_records m l rs last)

-- a turn whose events are left to the caller: the pool is lent only to read
abbrev pub PlanTurnPromise : List ℕ → List ℕ → List DeskRecord → ℕ → TurnReply → List ℕ → List DeskRecord → Type 0
PlanTurnPromise m l rs last r l' rs' =
    (r ≡ turn_reply (turn m l (d.desks_of rs) last).answer) × (l' ≡ (turn m l (d.desks_of rs) last).list)
    × (rs' ≡ d.turn_records m l rs last)

-- a turn is a planned turn, and then as many of its events as the reply counts carried out: each outcome of the two is one of turn, and
-- none is left out
abbrev pub TwoSteps : Type 0
TwoSteps =
    (m l : List ℕ) (rs : List DeskRecord) (last : ℕ) (r : TurnReply) (m' l' : List ℕ) (rs' : List DeskRecord)
    → (PlanTurnPromise m l rs last r l' rs' × CarryAllPromise m l' r.events m' → TurnPromise m l rs last r m' l' rs')
    × (TurnPromise m l rs last r m' l' rs' → PlanTurnPromise m l rs last r l' rs' × CarryAllPromise m l' r.events m')
