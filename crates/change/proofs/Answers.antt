-- What each answer of the calls on a pool says tells its cases apart: the answer can be read back from it.
use mathlib.Core.Path.{◌≡◌, refl, ap}
use lib.ListN.{drop}
use lib.Dec.{eqb}
use Rattle.std.specs.Prelude.{ℕ, if◌then◌else◌, Result, Ok, Err}
use Rattle.words.specs.Event.{at}
use Rattle.words.specs.Kinds as k
use Rattle.words.specs.Answers.{Said}
use Rattle.words.specs.declared.refusal.Refusal.{Refusal}
use Rattle.words.proofs.Answers.{told, refusal_of, refusal_back}
use Rattle.change.specs.declared.Outcome.{Outcome}
use Rattle.change.specs.declared.Outcome.TheVariants as o
use Rattle.change.specs.declared.Answer.{Answer}
use Rattle.change.specs.declared.Recovery.{Recovery}
use Rattle.change.specs.declared.Recovery.TheVariants as r
use Rattle.change.specs.declared.Checked.{Checked}
use Rattle.change.specs.declared.Checked.TheVariants as c
use Rattle.change.specs.Answers.{outcome_says, answer_says, format_says, recovery_says, check_says}
use Rattle.change.specs.Gate.{with_count}

abbrev pub outcome_read : Said → Result Outcome Refusal
outcome_read s =
    if eqb s.0 k.new then Ok o.New
    else if eqb s.0 k.replaced then Ok o.Replaced
    else if eqb s.0 k.removed then Ok o.Removed
    else if eqb s.0 k.absent then Ok o.Absent
    else if eqb s.0 k.found then Ok (o.Found (at s.2 0))
    else Err (refusal_of s.1)

pub outcome_back : (r : Result Outcome Refusal) → outcome_read (outcome_says r) ≡ r
outcome_back (Ok o.New) = refl
outcome_back (Ok o.Replaced) = refl
outcome_back (Ok o.Removed) = refl
outcome_back (Ok o.Absent) = refl
outcome_back (Ok (o.Found value)) = refl
outcome_back (Err why) = ap Err (refusal_back why)

pub outcome_told : (r s : Result Outcome Refusal) → outcome_says r ≡ outcome_says s → r ≡ s
outcome_told = told outcome_says outcome_read outcome_back

answer_read : Said → Result Answer Refusal
answer_read s = with_count (outcome_read (s.0, s.1, drop 1 s.2)) (at s.2 0)

answer_back : (r : Result Answer Refusal) → answer_read (answer_says r) ≡ r
unfolding answer_read
answer_back (Ok a) = ap (λ (x : Result Outcome Refusal). with_count x a.events) (outcome_back (Ok a.outcome))
answer_back (Err why) = ap Err (refusal_back why)

pub answer_told : (r s : Result Answer Refusal) → answer_says r ≡ answer_says s → r ≡ s
answer_told = told answer_says answer_read answer_back

format_read : Said → Result ℕ Refusal
format_read s = if eqb s.0 k.formatted then Ok (at s.2 0) else Err (refusal_of s.1)

format_back : (r : Result ℕ Refusal) → format_read (format_says r) ≡ r
unfolding format_read
format_back (Ok events) = refl
format_back (Err why) = ap Err (refusal_back why)

pub format_told : (r s : Result ℕ Refusal) → format_says r ≡ format_says s → r ≡ s
format_told = told format_says format_read format_back

recovery_read : Said → Result Recovery Refusal
recovery_read s =
    if eqb s.0 k.clean then Ok r.Clean
    else if eqb s.0 k.recovered then Ok (r.Recovered (at s.2 0) (at s.2 1))
    else Err (refusal_of s.1)

recovery_back : (r : Result Recovery Refusal) → recovery_read (recovery_says r) ≡ r
unfolding recovery_read
recovery_back (Ok r.Clean) = refl
recovery_back (Ok (r.Recovered pairs events)) = refl
recovery_back (Err why) = ap Err (refusal_back why)

pub recovery_told : (r s : Result Recovery Refusal) → recovery_says r ≡ recovery_says s → r ≡ s
recovery_told = told recovery_says recovery_read recovery_back

check_read : Said → Result Checked Refusal
check_read s =
    if eqb s.0 k.sound then Ok (c.Sound (at s.2 0) (at s.2 1))
    else if eqb s.0 k.fault then Ok (c.Fault (at s.2 0))
    else Err (refusal_of s.1)

check_back : (r : Result Checked Refusal) → check_read (check_says r) ≡ r
unfolding check_read
check_back (Ok (c.Sound nodes records)) = refl
check_back (Ok (c.Fault node)) = refl
check_back (Err why) = ap Err (refusal_back why)

pub check_told : (r s : Result Checked Refusal) → check_says r ≡ check_says s → r ≡ s
check_told = told check_says check_read check_back
