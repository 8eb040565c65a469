-- "The team proves that two outcomes allowed by the promise coincide": of each contract itself.
use Prim.Native.Nat.{ℕ}
use mathlib.Core.Path.{sym, ◌∙◌}
use mathlib.Core.List.{List}
use Rattle.words.proofs.Answers.{both_given, both_same}
use Rattle.words.proofs.Tight.{Tight}
use Rattle.turns.specs.declared.record.DeskRecord.{DeskRecord}
use Rattle.turns_c.proofs.ombykape_submit_put.Kinds as submit_put
use Rattle.turns_c.proofs.ombykape_submit_put.Reads as submit_put_reads
use Rattle.turns_c.proofs.ombykape_submit_fetch.Kinds as submit_fetch
use Rattle.turns_c.proofs.ombykape_submit_fetch.Reads as submit_fetch_reads
use Rattle.turns_c.proofs.ombykape_submit_delete.Kinds as submit_delete
use Rattle.turns_c.proofs.ombykape_submit_delete.Reads as submit_delete_reads
use Rattle.turns_c.proofs.ombykape_plan_turn.Kinds as plan_turn
use Rattle.turns_c.proofs.ombykape_plan_turn.Reads as plan_turn_reads
use Rattle.turns_c.proofs.ombykape_turn.Kinds as turn
use Rattle.turns_c.proofs.ombykape_turn.Reads as turn_reads

pub submit_put_tight : Tight 1 submit_put.ps submit_put.r submit_put_reads.Asked submit_put_reads.Learnt (λ κs x. x.0.now)
submit_put_tight = record { free = λ κs a. tt; one = λ κs a r s x y. both_given }

pub submit_fetch_tight : Tight 1 submit_fetch.ps submit_fetch.r submit_fetch_reads.Asked submit_fetch_reads.Learnt (λ κs x. x.0.now)
submit_fetch_tight = record { free = λ κs a. tt; one = λ κs a r s x y. both_given }

pub submit_delete_tight : Tight 1 submit_delete.ps submit_delete.r submit_delete_reads.Asked submit_delete_reads.Learnt
    (λ κs x. x.0.now)
submit_delete_tight = record { free = λ κs a. tt; one = λ κs a r s x y. both_given }

-- pool, list and desks
pub turn_tight : Tight 3 turn.ps turn.r {B = (List ℕ × List ℕ) × List DeskRecord} turn_reads.Asked turn_reads.Learnt
    (λ κs x. ((x.0.now, x.1.0.now), x.1.1.0.now))
turn_tight = record {
  free = λ κs a. tt;
  one = λ κs a r s x y h k. (h.0 ∙ sym k.0, both_same (both_same (h.1 ∙ sym k.1) (h.2 ∙ sym k.2)) (h.3 ∙ sym k.3));
}

-- the pool is lent only to read
pub plan_turn_tight : Tight 3 plan_turn.ps plan_turn.r {B = List ℕ × List DeskRecord} plan_turn_reads.Asked plan_turn_reads.Learnt
    (λ κs x. (x.1.0.now, x.1.1.0.now))
plan_turn_tight = record {
  free = λ κs a. tt;
  one = λ κs a r s x y h k. (h.0 ∙ sym k.0, both_same (h.1 ∙ sym k.1) (h.2 ∙ sym k.2));
}
