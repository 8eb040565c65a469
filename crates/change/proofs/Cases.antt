-- Fetch, delete and put on a well-formed pool come to the key's leaf, and what put does there goes by cases.
use Prim.Native.Nat.{ℕ, ◌-◌, ◌≤◌, ◌<◌}
use mathlib.Core.Path.{◌≡◌, refl}
use mathlib.Core.List.{List, ◌∷◌}
use mathlib.Core.Bool.{Bool, true, false}
use lib.Dec.{ltb}
use borrow.Author.Tests.{le-ltb, eq-eqb, ltb-true, ltb-false}
use Rattle.std.specs.Prelude.{Ok}
use Rattle.words.specs.Pool.{list_words, height_most}
use Rattle.words.specs.declared.refusal.Refusal.TheVariants.{Damaged, NoRoom}
use Rattle.node.specs.Lists.{has}
use Rattle.node.specs.View.{view, keys}
use Rattle.tree.specs.Header.{capacity_of, used_of, commit_of}
use Rattle.tree.specs.Path.{way_to}
use Rattle.tree.specs.WellFormed.{WellFormed}
use Rattle.tree.proofs.Hole.{above}
use Rattle.tree.proofs.Way.{Reached}
use Rattle.change.specs.declared.Outcome.{Outcome}
use Rattle.change.specs.declared.Outcome.TheVariants.{New, Replaced}
use Rattle.change.specs.Gate.{Planned, refused, past_list, past_gate, at_leaf}
use Rattle.change.specs.Steps.{full}
use Rattle.change.specs.Plan.{plan_events}
use Rattle.change.specs.Put.{replace_events, fill_events, split, needed, put_at}

-- past the refusals 1 to 4
pub list_passes : (room : ℕ) (p : Planned Outcome) → list_words ≤ room → past_list refused room p ≡ p
list_passes room p h = rw (le-ltb room list_words h)

pub gate_passes : {m : List ℕ} {key : ℕ} (body : ℕ → List ℕ → Planned Outcome) → WellFormed m → (y : Reached m key)
    → past_gate refused m (at_leaf body (way_to m key)) ≡ body y.place.number (above y.up)
gate_passes {m} body w y = rw (w.form, eq-eqb (commit_of m) 0 w.clean, y.is)

-- at leaf k: the key is there; the leaf has room; there are too few nodes; the eight-level refusal; or the leaf splits
pub data PutAt (m : List ℕ) (key value k : ℕ) (ks : List ℕ) : Planned Outcome → Type 0 where
  replaces : has key (keys (view m k).records) ≡ true
      → PutAt m key value k ks (record { answer = Ok Replaced; events = replace_events k (view m k) (key, value) })
  fills : has key (keys (view m k).records) ≡ false → full (view m k) ≡ false
      → PutAt m key value k ks (record { answer = Ok New; events = fill_events k (view m k) (key, value) })
  crowded : has key (keys (view m k).records) ≡ false → full (view m k) ≡ true → capacity_of m - used_of m < needed m (k ∷ ks)
      → PutAt m key value k ks (refused NoRoom)
  too_high : height_most < needed m (k ∷ ks) → PutAt m key value k ks (refused Damaged)
  splits : has key (keys (view m k).records) ≡ false → full (view m k) ≡ true → needed m (k ∷ ks) ≤ capacity_of m - used_of m
      → PutAt m key value k ks (record { answer = Ok New; events = plan_events (split m k ks (key, value)) })

pub put_case : (m : List ℕ) (key value k : ℕ) (ks : List ℕ) → PutAt m key value k ks (put_at m key value k ks)
unfolding put_at
put_case m key value k ks =
    go (has key (keys (view m k).records)) refl (full (view m k)) refl (ltb (capacity_of m - used_of m) (needed m (k ∷ ks))) refl
    (ltb height_most (needed m (k ∷ ks))) refl
  where
    go : (a : Bool) → has key (keys (view m k).records) ≡ a → (b : Bool) → full (view m k) ≡ b
        → (c : Bool) → ltb (capacity_of m - used_of m) (needed m (k ∷ ks)) ≡ c → (d : Bool) → ltb height_most (needed m (k ∷ ks)) ≡ d
        → PutAt m key value k ks (put_at m key value k ks)
    go true e b f c g d h = rw e (replaces e)
    go false e false f c g d h = rw (e, f) (fills e f)
    go false e true f true g d h = rw (e, f, g) (crowded e f (ltb-true (capacity_of m - used_of m) (needed m (k ∷ ks)) g))
    go false e true f false g true h = rw (e, f, g, h) (too_high (ltb-true height_most (needed m (k ∷ ks)) h))
    go false e true f false g false h = rw (e, f, g, h) (splits e f (ltb-false (capacity_of m - used_of m) (needed m (k ∷ ks)) g))
