-- "The team proves that two outcomes allowed by the promise coincide": of each contract itself. Of two lent slices the second is the one
-- that may change, but of carrying out the first. Fetch is lent nothing to change.
use mathlib.Core.Path.{refl, sym, ◌∙◌}
use Rattle.words.proofs.Answers.{both_given}
use Rattle.words.proofs.Tight.{Tight}
use Rattle.exports_c.proofs.ombykape_format.Kinds as format
use Rattle.exports_c.proofs.ombykape_format.Reads as format_reads
use Rattle.exports_c.proofs.ombykape_recover.Kinds as recover
use Rattle.exports_c.proofs.ombykape_recover.Reads as recover_reads
use Rattle.exports_c.proofs.ombykape_put.Kinds as put
use Rattle.exports_c.proofs.ombykape_put.Reads as put_reads
use Rattle.exports_c.proofs.ombykape_delete.Kinds as delete
use Rattle.exports_c.proofs.ombykape_delete.Reads as delete_reads
use Rattle.exports_c.proofs.ombykape_check.Kinds as check
use Rattle.exports_c.proofs.ombykape_check.Reads as check_reads
use Rattle.exports_c.proofs.ombykape_fetch.Kinds as fetch
use Rattle.exports_c.proofs.ombykape_fetch.Reads as fetch_reads
use Rattle.exports_c.proofs.ombykape_carry_out.Kinds as carry_out
use Rattle.exports_c.proofs.ombykape_carry_out.Reads as carry_out_reads
use Rattle.exports_c.proofs.ombykape_carry_all.Kinds as carry_all
use Rattle.exports_c.proofs.ombykape_carry_all.Reads as carry_all_reads

pub format_tight : Tight 2 format.ps format.r format_reads.Asked format_reads.Learnt (λ κs x. x.1.0.now)
format_tight = record { free = λ κs a. tt; one = λ κs a r s x y. both_given }

pub recover_tight : Tight 2 recover.ps recover.r recover_reads.Asked recover_reads.Learnt (λ κs x. x.1.0.now)
recover_tight = record { free = λ κs a. tt; one = λ κs a r s x y. both_given }

pub put_tight : Tight 2 put.ps put.r put_reads.Asked put_reads.Learnt (λ κs x. x.1.0.now)
put_tight = record { free = λ κs a. tt; one = λ κs a r s x y. both_given }

pub delete_tight : Tight 2 delete.ps delete.r delete_reads.Asked delete_reads.Learnt (λ κs x. x.1.0.now)
delete_tight = record { free = λ κs a. tt; one = λ κs a r s x y. both_given }

pub check_tight : Tight 2 check.ps check.r check_reads.Asked check_reads.Learnt (λ κs x. x.1.0.now)
check_tight = record { free = λ κs a. tt; one = λ κs a r s x y. both_given }

pub fetch_tight : Tight 1 fetch.ps fetch.r {B = Unit {0}} fetch_reads.Asked fetch_reads.Learnt (λ κs x. tt)
fetch_tight = record { free = λ κs a. tt; one = λ κs a r s x y h k. (h ∙ sym k, refl) }

pub carry_out_tight : Tight 2 carry_out.ps carry_out.r carry_out_reads.Asked carry_out_reads.Learnt (λ κs x. x.0.now)
carry_out_tight = record { free = λ κs a. tt; one = λ κs a r s x y. both_given }

pub carry_all_tight : Tight 2 carry_all.ps carry_all.r carry_all_reads.Asked carry_all_reads.Learnt (λ κs x. x.0.now)
carry_all_tight = record { free = λ κs a. tt; one = λ κs a r s x y h k. (refl, h ∙ sym k) }
