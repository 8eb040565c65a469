-- What recovery finds in the log of a pool.
use Rattle.std.specs.Prelude.{ℕ, ◌≡◌, List, true, false, Result, Ok, Err}
use Rattle.std.specs.Borrow.{Bor}
use Rattle.words.specs.Pool.{pairs_at}
use Rattle.words.specs.declared.refusal.Refusal.{Refusal}
use Rattle.words.specs.declared.refusal.Refusal.TheVariants.{BadLog}
use Rattle.tree.specs.Header.{commit_of}
use Rattle.change.specs.Recover.{log_pairs, log_agrees}
use Rattle.split.specs.inner.Pairs.{pairs_of}

-- its pairs, or refusal 6
abbrev pub Logged : List ℕ → Result (Bor (List (List ℕ))) Refusal → Type 0
Logged m (Ok log) = (log_agrees m ≡ true) × (pairs_of log.now ≡ log_pairs (commit_of m) pairs_at m)
Logged m (Err why) = (log_agrees m ≡ false) × (why ≡ BadLog)
