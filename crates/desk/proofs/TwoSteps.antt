-- A turn is a planned turn, then its events carried out.
use Prim.Native.Nat.{ℕ}
use mathlib.Core.Path.{◌≡◌, ◌∙◌}
use mathlib.Core.List.{List}
use lib.ListN.{length}
use Rattle.words.specs.Carry.{CarryAllPromise, after_all}
use Rattle.desk.specs.declared.answer.Turn.{Turn}
use Rattle.desk.specs.Desk.{Desk, held, choose}
use Rattle.desk.specs.Turn.{turn}
use Rattle.desk.specs.Promises.{PlanTurnPromise, TurnPromise, TwoSteps}
use Rattle.desk.proofs.Answers.{turn_told}
use Rattle.desk.proofs.Served.{carried_out, carries}

module _ (m l : List ℕ) (ds : List Desk) (last : ℕ) (r : Turn) (m' l' : List ℕ) (ds' : List Desk) where
  abbrev Two : Type 0
  Two = PlanTurnPromise m l ds last r l' ds' × CarryAllPromise m l' r.events m'

  pub joined : Two → TurnPromise m l ds last r m' l' ds'
  joined (p, c) =
      let k = choose ds last in
      (p.0, carries m l (length ds) last k (held ds k) (turn_told r (turn m l ds last).answer p.0) p.1 c, p.1, p.2)

  parted : TurnPromise m l ds last r m' l' ds' → Two
  parted h =
      let k = choose ds last in
      let all = carried_out m l (length ds) last k (held ds k) in
      let c : m' ≡ after_all m l' 1 r.events = rw (turn_told r (turn m l ds last).answer h.0, h.2) (h.1 ∙ all) in
      ((h.0, h.2, h.3), c)

pub two_steps : TwoSteps
two_steps m l ds last r m' l' ds' = (joined m l ds last r m' l' ds', parted m l ds last r m' l' ds')
