-- `desk::turning::choose` meets its contract: as many desks are read as are lent, so both lists pass or fail the test of 9.
use mathlib.Core.Path.{◌≡◌, sym, ◌∙◌}
use mathlib.Core.Bool.{true, false}
use Rattle.std.proofs.Common.{arith}
use Rattle.std.proofs.lemmas.Grind.{common_steps}
use lib.ListN.{length}
use Rattle.desk.specs.Desk.{may_turn}
use Rattle.desk.proofs.LentDesks.{length_reads}
use Rattle.desk.proofs.Looking.{nine, one, from_first, from_last}
use Rattle.desk.proofs.turning.choose.Goals as goal

pub returns-then-not-contains-clause-chosen : goal.returns-then-not-contains-clause-chosen
returns-then-not-contains-clause-chosen g c =
    let n = length_reads g.met.L.Lent.reads_each c.args.desks.now in
    let no : may_turn (length c.args.desks.now) c.args.last ≡ false = grind (arith, common_steps) in
    nine _ _ _ (rw n no)

pub returns-then-list-lt-LIST_WORDS-clause-chosen : goal.returns-then-list-lt-LIST_WORDS-clause-chosen
returns-then-list-lt-LIST_WORDS-clause-chosen g c =
    let n = length_reads g.met.L.Lent.reads_each c.args.desks.now in
    let may : may_turn (length c.args.desks.now) c.args.last ≡ true = grind (arith, common_steps) in
    one _ _ _ (rw n may) c.if-list-lt-LIST_WORDS.true

pub returns-in-Some-clause-chosen : goal.returns-in-Some-clause-chosen
returns-in-Some-clause-chosen g c =
    let n = length_reads g.met.L.Lent.reads_each c.args.desks.now in
    let may : may_turn (length c.args.desks.now) c.args.last ≡ true = grind (arith, common_steps) in
    from_last _ _ _ (rw n may) c.if-list-lt-LIST_WORDS.false (rw n (sym c.first_full.ensures.found ∙ c.in-Some.is))

pub returns-in-None-clause-chosen : goal.returns-in-None-clause-chosen
returns-in-None-clause-chosen g c =
    let n = length_reads g.met.L.Lent.reads_each c.args.desks.now in
    let may : may_turn (length c.args.desks.now) c.args.last ≡ true = grind (arith, common_steps) in
    from_first _ _ _ (rw n may) c.if-list-lt-LIST_WORDS.false (rw n (sym c.first_full.ensures.found ∙ c.in-None.is))
    c.first_full-in-None.ensures.found
