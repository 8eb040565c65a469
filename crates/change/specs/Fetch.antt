-- Document 01: "Fetch answers found or absent", with refusals 2, 3 and 4.
use Rattle.std.specs.Prelude.{ℕ, List}
use Rattle.std.proofs.Math.Option.{Option, none, some}
use Rattle.node.specs.View.{view}
use Rattle.tree.specs.Path.{way_to}
use Rattle.tree.specs.Map.{find}
use Rattle.change.specs.declared.Outcome.{Outcome}
use Rattle.change.specs.declared.Outcome.TheVariants.{Found, Absent}
use Rattle.change.specs.Gate.{Planned, quiet, refused, past_gate, at_leaf}

-- what stands under a key, as an outcome
abbrev pub said : Option ℕ → Outcome
said none = Absent
said (some value) = Found value

-- at leaf k
abbrev pub fetch_at : List ℕ → ℕ → ℕ → List ℕ → Planned Outcome
fetch_at m key k above = quiet (said (find key (view m k).records))

-- 2, 3, 4, then found or absent; no events
abbrev pub fetch : List ℕ → ℕ → Planned Outcome
fetch m key = past_gate refused m (at_leaf (fetch_at m key) (way_to m key))
