use Prim.Native.Nat.{◌+◌, ◌-◌}
use mathlib.Core.Path.{◌≡◌}
use Rattle.words.specs.Lists.{count_from}
use Rattle.words.specs.Pool.{line, log_at}
use Rattle.words.specs.Blocks.{flushes}
use Rattle.split.proofs.Loops.{Left}
use Rattle.split.proofs.logging.flush_log.Given as goal

abbrev pub invariant-loop-line : goal.invariant-loop-line
invariant-loop-line l =
    (l.list.events + l.first ≡ l.initial.list.events + l.line)
    × Left (flushes (count_from (line log_at) l.count)) l.initial.list (flushes (count_from l.line (l.first + l.count - l.line))) l.list
