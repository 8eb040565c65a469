-- "The team proves that two outcomes allowed by the promise coincide": of each contract itself. The pool is lent only to read; the list,
-- and the marks of check, are the second parameter. Fetch is lent nothing else.
use mathlib.Core.Path.{refl, sym, ◌∙◌}
use Rattle.words.proofs.Answers.{one_outcome}
use Rattle.words.proofs.Tight.{Tight}
use Rattle.change.proofs.Answers.{outcome_told, answer_told, format_told, recovery_told, check_told}
use Rattle.pool.proofs.format.Kinds as format
use Rattle.pool.proofs.format.Reads as format_reads
use Rattle.pool.proofs.recover.Kinds as recover
use Rattle.pool.proofs.recover.Reads as recover_reads
use Rattle.pool.proofs.put.Kinds as put
use Rattle.pool.proofs.put.Reads as put_reads
use Rattle.pool.proofs.delete.Kinds as delete
use Rattle.pool.proofs.delete.Reads as delete_reads
use Rattle.pool.proofs.serve.Kinds as serve
use Rattle.pool.proofs.serve.Reads as serve_reads
use Rattle.pool.proofs.check.Kinds as check
use Rattle.pool.proofs.check.Reads as check_reads
use Rattle.pool.proofs.fetch.Kinds as fetch
use Rattle.pool.proofs.fetch.Reads as fetch_reads

pub format_tight : Tight 2 format.ps format.r format_reads.Asked format_reads.Learnt (λ κs x. x.1.0.now)
format_tight = record { free = λ κs a. tt; one = λ κs a r s x y. one_outcome format_told }

pub recover_tight : Tight 2 recover.ps recover.r recover_reads.Asked recover_reads.Learnt (λ κs x. x.1.0.now)
recover_tight = record { free = λ κs a. tt; one = λ κs a r s x y. one_outcome recovery_told }

pub put_tight : Tight 2 put.ps put.r put_reads.Asked put_reads.Learnt (λ κs x. x.1.0.now)
put_tight = record { free = λ κs a. tt; one = λ κs a r s x y. one_outcome answer_told }

pub delete_tight : Tight 2 delete.ps delete.r delete_reads.Asked delete_reads.Learnt (λ κs x. x.1.0.now)
delete_tight = record { free = λ κs a. tt; one = λ κs a r s x y. one_outcome answer_told }

pub serve_tight : Tight 2 serve.ps serve.r serve_reads.Asked serve_reads.Learnt (λ κs x. x.1.0.now)
serve_tight = record { free = λ κs a. tt; one = λ κs a r s x y. one_outcome answer_told }

pub check_tight : Tight 2 check.ps check.r check_reads.Asked check_reads.Learnt (λ κs x. x.1.0.now)
check_tight = record { free = λ κs a. tt; one = λ κs a r s x y. one_outcome check_told }

pub fetch_tight : Tight 1 fetch.ps fetch.r {B = Unit {0}} fetch_reads.Asked fetch_reads.Learnt (λ κs x. tt)
fetch_tight = record { free = λ κs a. tt; one = λ κs a r s x y h k. (outcome_told _ _ (h ∙ sym k), refl) }
