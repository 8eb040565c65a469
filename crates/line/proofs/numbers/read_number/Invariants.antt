use Rattle.std.proofs.Common.{◌≡◌, ◌^◌, ◌<◌, drop}
use Rattle.line.specs.Line.{number_of, read}
use Rattle.line.proofs.numbers.read_number.Given as goal

abbrev pub invariant-loop-b : goal.invariant-loop-b
invariant-loop-b l = (l.x < 2 ^ 64) × (number_of l.digits ≡ read l.x (drop l.b-index l.digits))
