-- Whatever is asked of a well-formed pool, what is planned survives every cut.
use Prim.Native.Nat.{ℕ, ◌≤◌, ◌<◌}
use mathlib.Core.Path.{◌≡◌, refl}
use mathlib.Core.List.{List}
use mathlib.Core.Bool.{Bool, true, false}
use native.Mathlib.Omega.{arith}
use lib.ListN.{length}
use borrow.Author.Tests.{eqb-false}
use Rattle.words.specs.Pool.{list_words}
use Rattle.node.specs.Lists.{has}
use Rattle.node.specs.Slot.{entries}
use Rattle.node.specs.View.{view, keys, no_end}
use Rattle.tree.specs.WellFormed.{WellFormed}
use Rattle.tree.proofs.Hole.{above}
use Rattle.tree.proofs.Way.{Reached, reach}
use Rattle.change.specs.declared.Request.{Request}
use Rattle.change.specs.declared.Request.TheVariants.{Put, Fetch, Delete}
use Rattle.change.specs.declared.Outcome.{Outcome}
use Rattle.change.specs.Gate.{Planned}
use Rattle.change.specs.Fetch.{fetch_at, fetch}
use Rattle.change.specs.Delete.{delete_at, delete}
use Rattle.change.specs.Put.{put_at, put}
use Rattle.change.specs.Calls.{serve, key_of}
use Rattle.change.proofs.Leaf.{leaf_node}
use Rattle.change.proofs.Cases.{list_passes, gate_passes, PutAt, replaces, fills, crowded, too_high, splits, put_case}
use Rattle.change.proofs.Survives.{Survives}
use Rattle.change.proofs.LeafCuts.{none_survives, delete_survives, replace_survives, fill_survives}
use Rattle.change.proofs.SplitCuts.{split_survives}

module _ {m : List ℕ} (w : WellFormed m) (key : ℕ) (h : key < no_end) where
  y : Reached m key
  y = reach m key w h

  abbrev k : ℕ
  k = y.place.number

  fetch_call : Survives m (fetch m key).events
  fetch_call = rw (gate_passes (fetch_at m key) w y) (none_survives w)

  module _ {room : ℕ} (long : list_words ≤ room) where
    delete_call : Survives m (delete room m key).events
    unfolding delete_at
    delete_call = rw (list_passes room _ long, gate_passes (delete_at m key) w y) (go (has key (keys (view m k).records)) refl)
      where
        go : (b : Bool) → has key (keys (view m k).records) ≡ b → Survives m (delete_at m key k (above y.up)).events
        go true t = rw t (delete_survives w y t)
        go false t = rw t (none_survives w)

    put_call : (v : ℕ) → Survives m (put room m key v).events
    put_call v = rw (list_passes room _ long, gate_passes (put_at m key v) w y) (go (put_case m key v k (above y.up)))
      where
        go : {p : Planned Outcome} → PutAt m key v k (above y.up) p → Survives m p.events
        go (replaces a) = replace_survives w y a v
        go (fills a f) = fill_survives w y v a (omega (arith, (leaf_node w y).names.few, eqb-false (length (view m k).named) entries f))
        go (crowded a f s) = none_survives w
        go (too_high n) = none_survives w
        go (splits a f r) = split_survives w y v f r a

pub serve_survives : {m : List ℕ} → WellFormed m → {room : ℕ} → list_words ≤ room → (q : Request) → key_of q < no_end
    → Survives m (serve room m q).events
serve_survives w long (Put key value) h = put_call w key h long value
serve_survives w long (Fetch key) h = fetch_call w key h
serve_survives w long (Delete key) h = delete_call w key h long
