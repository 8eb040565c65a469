use Prim.Native.Nat.{◌+◌, ◌-◌}
use mathlib.Core.Path.{◌≡◌}
use Rattle.words.specs.Carry.{after_all}
use Rattle.words.proofs.carry.carry_all.Given as goal

abbrev pub invariant-loop-n : goal.invariant-loop-n
invariant-loop-n l = after_all l.pool l.list l.n (l.events + 1 - l.n) ≡ after_all l.initial.pool l.list 1 l.events
