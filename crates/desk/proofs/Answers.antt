-- What each answer of submit and turn says tells its cases apart: the answer can be read back from it.
use mathlib.Core.Path.{◌≡◌, refl, ap}
use lib.ListN.{drop}
use lib.Dec.{eqb}
use Rattle.std.specs.Prelude.{Result, Ok, Err, if◌then◌else◌}
use Rattle.words.specs.declared.refusal.Refusal.{Refusal}
use Rattle.words.specs.Event.{at}
use Rattle.words.specs.Kinds as k
use Rattle.words.specs.Answers.{Said}
use Rattle.words.proofs.Answers.{told, refusal_of, refusal_back}
use Rattle.change.proofs.Answers.{outcome_read, outcome_back}
use Rattle.desk.specs.declared.answer.Turned.{Turned}
use Rattle.desk.specs.declared.answer.Turned.TheVariants.{Served, Idle}
use Rattle.desk.specs.declared.answer.Turn.{Turn}
use Rattle.desk.specs.Answers.{submit_says, turned_says, turn_says}

submit_of : Said → Result Unit Refusal
submit_of x = if eqb x.0 k.accepted then Ok tt else Err (refusal_of x.1)

submit_back : (r : Result Unit Refusal) → submit_of (submit_says r) ≡ r
unfolding submit_of
submit_back (Ok x) = refl
submit_back (Err why) = ap Err (refusal_back why)

pub submit_told : (r s : Result Unit Refusal) → submit_says r ≡ submit_says s → r ≡ s
submit_told = told submit_says submit_of submit_back

abbrev turned_of : Said → Result Turned Refusal
turned_of x =
    if eqb x.0 k.served then Ok (Served (outcome_read (at x.2 0, x.1, drop 1 x.2)))
    else if eqb x.0 k.idle then Ok Idle
    else Err (refusal_of x.1)

turned_back : (r : Result Turned Refusal) → turned_of (turned_says r) ≡ r
turned_back (Ok (Served o)) = ap (λ x. Ok (Served x)) (outcome_back o)
turned_back (Ok Idle) = refl
turned_back (Err why) = ap Err (refusal_back why)

pub turned_told : (r s : Result Turned Refusal) → turned_says r ≡ turned_says s → r ≡ s
turned_told = told turned_says turned_of turned_back

turn_of : Said → Turn
turn_of x =
    record { turned = turned_of (x.0, x.1, drop 3 x.2); member = at x.2 0; events = at x.2 1; last = at x.2 2 }

turn_back : (r : Turn) → turn_of (turn_says r) ≡ r
unfolding turn_of
turn_back r =
    ap (λ (x : Result Turned Refusal). record { turned = x; member = r.member; events = r.events; last = r.last }) (turned_back r.turned)

pub turn_told : (r s : Turn) → turn_says r ≡ turn_says s → r ≡ s
turn_told = told turn_says turn_of turn_back
