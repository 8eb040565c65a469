-- Records read as desks: what a submit and a turn leave of the records reads as what these leave of the desks.
use Prim.Native.Nat.{ℕ}
use mathlib.Core.Path.{◌≡◌, refl}
use mathlib.Core.List.{List}
use Rattle.std.specs.Prelude.{None}
use Rattle.change.specs.declared.Request.{Request}
use Rattle.desk.specs.Turn.{submit_desks, turn, turn_desks}
use Rattle.desk.proofs.LentDesks.{with_reads, laid_reads}
use Rattle.turns.specs.declared.record.DeskRecord.{DeskRecord}
use Rattle.turns.specs.Desks.{desks_of, record_of, submit_records, turn_records}
use Rattle.turns.specs.contracts.record.DeskRecordLent.TheImpl.Laws as law

-- the records after a submit are read as the desks after it
pub submits : (rs : List DeskRecord) (j : ℕ) (q : Request) → desks_of (submit_records rs j q) ≡ submit_desks (desks_of rs) j q
submits rs j q = laid_reads (λ rs. refl) record_of law.says_made-law rs j q

-- the records after a turn are read as the desks after it
pub turned : (m l : List ℕ) (rs : List DeskRecord) (last : ℕ)
    → desks_of (turn_records m l rs last) ≡ turn_desks m l (desks_of rs) last
turned m l rs last = with_reads (λ rs. refl) rs (turn m l (desks_of rs) last).answer.member (record_of None)
