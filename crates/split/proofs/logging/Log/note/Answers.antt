-- One pair after those that are noted.
use Prim.Native.Nat.{◌<◌}
use mathlib.Core.Path.{◌∙◌}
use native.Mathlib.Omega.{arith}
use lib.ListN.{length}
use Rattle.split.proofs.Notes.{counted, noted, noted_near}
use Rattle.split.proofs.logging.Log.note.Goals as goal

pub bounds-self-inside-self-inside : goal.bounds-self-inside-self-inside
bounds-self-inside-self-inside c =
    let s = c.self.inside in
    omega (arith, (counted s.pairs s.count (omega arith) c.self.view_is).0)

pub invariant_of-self : goal.invariant_of-self
invariant_of-self c =
    let s = c.self.inside in
    let room : s.count < length s.pairs = omega (arith, (counted s.pairs s.count (omega arith) c.self.view_is).0) in
    (omega arith, noted_near s.pairs s.count c.args.address c.args.value room c.requires.1 c.self.invariant.1)

pub returns : goal.returns
returns c =
    let s = c.self.inside in
    let room : s.count < length s.pairs = omega (arith, (counted s.pairs s.count (omega arith) c.self.view_is).0) in
    record { pairs = noted s.pairs s.count c.args.address c.args.value room ∙ rw c.self.view_is }
