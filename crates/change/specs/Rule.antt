-- Document 01, "What the box holds": the map's rule. "Fetch answers found or absent, put new or replaced, delete removed or absent; only
-- the key named changes."
use Rattle.std.specs.Prelude.{ℕ, eqb, if◌then◌else◌}
use Rattle.std.proofs.Math.Option.{Option, none, some}
pub use Rattle.tree.specs.Map.{Map}
use Rattle.change.specs.declared.Request.{Request}
use Rattle.change.specs.declared.Request.TheVariants.{Put, Fetch, Delete}
use Rattle.change.specs.declared.Outcome.{Outcome}
use Rattle.change.specs.declared.Outcome.TheVariants.{New, Replaced, Removed, Absent}
use Rattle.change.specs.Fetch.{said}

-- the map of a fresh pool
abbrev pub empty : Map
empty key = none

-- "only the key named changes"
abbrev pub changed : ℕ → Option ℕ → Map → Map
changed key o f q = if eqb q key then o else f q

-- one outcome where the key is absent, another where it is present
abbrev pub by_presence : Outcome → Outcome → Option ℕ → Outcome
by_presence missing present none = missing
by_presence missing present (some value) = present

-- the outcome of a request, and the map after it
abbrev pub rule : Request → Map → Outcome × Map
rule (Put key value) f = (by_presence New Replaced (f key), changed key (some value) f)
rule (Fetch key) f = (said (f key), f)
rule (Delete key) f = (by_presence Absent Removed (f key), changed key none f)
