-- The exported turn is the exported planned turn, then as many of its events as the reply counts carried out.
use Prim.Native.Nat.{ℕ}
use mathlib.Core.Path.{◌≡◌, refl, sym, ◌∙◌, ap}
use mathlib.Core.List.{List}
use lib.ListN.{length}
use Rattle.std.specs.Prelude.{Result, Ok, Err}
use Rattle.words.specs.declared.refusal.Refusal.{Refusal}
use Rattle.words.specs.Carry.{CarryAllPromise, after_all}
use Rattle.change.specs.declared.Outcome.TheVariants as o
use Rattle.desk.specs.declared.answer.Turned.{Turned}
use Rattle.desk.specs.declared.answer.Turned.TheVariants.{Served, Idle}
use Rattle.desk.specs.Desk.{Desk, held, choose}
use Rattle.desk.specs.Turn.{turn}
use Rattle.desk.proofs.Refused.{refuses}
use Rattle.desk.proofs.Served.{carried_out}
use Rattle.turns.specs.declared.record.DeskRecord.{DeskRecord}
use Rattle.turns.specs.declared.replies.TurnReply.{TurnReply}
use Rattle.turns.specs.Replies.{turned_reply, turn_reply}
use Rattle.turns.specs.Desks.{desks_of}
use Rattle.turns.specs.Promises.{PlanTurnPromise, TurnPromise, TwoSteps}

-- a refusal counts 0 events in the answer too, so a reply loses no count
counted : (m l : List ℕ) (ds : List Desk) (last : ℕ) → let t = (turn m l ds last).answer in (turn_reply t).events ≡ t.events
counted m l ds last = go (turn m l ds last).answer.turned refl
  where
    n : ℕ
    n = (turn m l ds last).answer.events

    go : (x : Result Turned Refusal) → (turn m l ds last).answer.turned ≡ x → (turned_reply x n).events ≡ n
    go (Ok (Served (Ok o.New))) e = refl
    go (Ok (Served (Ok o.Replaced))) e = refl
    go (Ok (Served (Ok o.Removed))) e = refl
    go (Ok (Served (Ok o.Absent))) e = refl
    go (Ok (Served (Ok (o.Found v)))) e = refl
    go (Ok (Served (Err why))) e = sym (refuses.request_refused m l ds last why e).events_are
    go (Ok Idle) e = refl
    go (Err why) e = sym (refuses.turn_refused m l ds last why e).events_are

module _ (m l : List ℕ) (rs : List DeskRecord) (last : ℕ) (r : TurnReply) (m' l' : List ℕ) (rs' : List DeskRecord) where
  abbrev ds : List Desk
  ds = desks_of rs

  abbrev Two : Type 0
  Two = PlanTurnPromise m l rs last r l' rs' × CarryAllPromise m l' r.events m'

  count_is : r ≡ turn_reply (turn m l ds last).answer → r.events ≡ (turn m l ds last).answer.events
  count_is e = ap (λ (x : TurnReply). x.events) e ∙ counted m l ds last

  all : (turn m l ds last).pool ≡ after_all m (turn m l ds last).list 1 (turn m l ds last).answer.events
  all = let k = choose ds last in carried_out m l (length ds) last k (held ds k)

  joined : Two → TurnPromise m l rs last r m' l' rs'
  joined (p, c) = (p.0, (rw (count_is p.0, p.1) at c) ∙ sym all, p.1, p.2)

  parted : TurnPromise m l rs last r m' l' rs' → Two
  parted h = ((h.0, h.2, h.3), rw (count_is h.0, h.2) (h.1 ∙ all))

pub two_steps : TwoSteps
two_steps m l rs last r m' l' rs' = (joined m l rs last r m' l' rs', parted m l rs last r m' l' rs')
