-- "The team proves that two outcomes allowed by the promise coincide": of the contract itself, as a caller reads it.
use Prim.Native.Nat.{ℕ}
use mathlib.Core.Path.{◌≡◌, refl, sym, ◌∙◌}
use mathlib.Core.List.{List}
use contract.Lifetimes.{Lfts}
use denote.Triple.Clauses.{AtExit}
use borrow.Fn.Kind.{ParamKind, ResultKind}
use borrow.Fn.Kinds.{Dens, res_t, In, Out, ended_of}
use Rattle.words.proofs.Answers.{one_outcome, carried_told}
use Rattle.words.proofs.carry_out.Kinds as carry_out
use Rattle.words.proofs.carry_out.Reads as carry_out_reads
use Rattle.words.proofs.carry_all.Kinds as carry_all
use Rattle.words.proofs.carry_all.Reads as carry_all_reads

-- of a call with these parameters and this result: its contract asks nothing of a caller, and what a caller learns by it allows one answer
-- and one content of all that was lent to be changed
pub record Tight (n : ℕ) (ps : List (ParamKind n)) (k : ResultKind n) {B : Type 0} (asked : In n ps) (learnt : Out n ps k)
    (left : (κs : Lfts n) → AtExit (ended_of n ps k) κs → B) : Type 0 where
  pub free : (κs : Lfts n) (a : Dens κs ps) → asked κs a
  pub one : (κs : Lfts n) (a : Dens κs ps) (r s : (res_t k κs).Denot) (x y : AtExit (ended_of n ps k) κs)
      → learnt κs a r x → learnt κs a s y → (r ≡ s) × (left κs x ≡ left κs y)

pub carry_out_tight : Tight 2 carry_out.ps carry_out.r carry_out_reads.Asked carry_out_reads.Learnt (λ κs x. x.0.now)
carry_out_tight = record { free = λ κs a. tt; one = λ κs a r s x y. one_outcome carried_told }

pub carry_all_tight : Tight 2 carry_all.ps carry_all.r carry_all_reads.Asked carry_all_reads.Learnt (λ κs x. x.0.now)
carry_all_tight = record { free = λ κs a. tt; one = λ κs a r s x y h k. (refl, h ∙ sym k) }
