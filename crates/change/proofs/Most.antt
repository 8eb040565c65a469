-- The table of the most events, and that a list of 372 words holds the events of every call.
use Prim.Native.Nat.{ℕ, ◌+◌, ◌-◌, ◌≤◌}
use mathlib.Core.Path.{◌≡◌, refl}
use mathlib.Core.List.{List, [], ◌∷◌}
use mathlib.Core.Bool.{Bool, true, false, not}
use native.Mathlib.Omega.{arith}
use lib.ListN.{length}
use lib.Dec.{ltb, eqb}
use borrow.Author.Tests.{ltb-false, not-false}
use Rattle.std.specs.Prelude.{if◌then◌else◌}
use Rattle.words.specs.Tests.{within}
use Rattle.words.specs.Pool.{pairs_at, capacity_most, total_of, list_words, height_most, events_most}
use Rattle.node.specs.Lists.{has}
use Rattle.node.specs.View.{Record, View, view, keys}
use Rattle.tree.specs.Header.{capacity_of, used_of, commit_of, form_agrees}
use Rattle.tree.specs.Path.{Way, failed, leaf, way_to}
use Rattle.tree.proofs.Form.{counts}
use Rattle.tree.proofs.Path.{way_to_counts, way_to_length}
use Rattle.change.specs.declared.Request.{Request}
use Rattle.change.specs.declared.Request.TheVariants.{Put, Fetch, Delete}
use Rattle.change.specs.declared.Outcome.{Outcome}
use Rattle.change.specs.Gate.{Planned, refused, past_list, past_gate, at_leaf}
use Rattle.change.specs.Steps.{full}
use Rattle.change.specs.Plan.{log_finished, plan_events}
use Rattle.change.specs.Format.{format_past_list, format}
use Rattle.change.specs.Recover.{log_pairs, log_agrees, recover_past_form, recover}
use Rattle.change.specs.Fetch.{fetch_at}
use Rattle.change.specs.Delete.{delete_at}
use Rattle.change.specs.Put.{fill_events, split, needed, put_at}
use Rattle.change.specs.Calls.{serve}
use Rattle.change.specs.Most.{split_levels, Most, Fits}
use Rattle.change.proofs.Counts.{finished_count, length_log_pairs, format_count}
use Rattle.change.proofs.Counts.{levels_full, levels_room, needed_full, needed_room, no_more}
use Rattle.change.proofs.Lines.{entry_stored}
use Rattle.change.proofs.Worst.{reached}
use Rattle.change.proofs.Recover.{log_says}

-- the levels split, the new root, and the length of the path
pub record Depth (m path : List ℕ) : Type 0 where
  pub low : split_levels m path ≤ needed m path
  pub high : needed m path ≤ split_levels m path + 1
  pub long : split_levels m path + 1 ≤ length path + (needed m path - split_levels m path)

pub depth : (m path : List ℕ) → Depth m path
depth m [] = unfold split_levels needed in (record { low = omega arith; high = omega arith; long = omega arith })
depth m (k ∷ above) = go (depth m above) (full (view m k)) refl
  where
    go : Depth m above → (b : Bool) → full (view m k) ≡ b → Depth m (k ∷ above)
    go d true t =
        let e = levels_full m k above t in
        let f = needed_full m k above t in
        record { low = omega (arith, d.low); high = omega (arith, d.high); long = omega (arith, d.long, d.low) }
    go d false t =
        let e = levels_room m k above t in
        let f = needed_room m k above t in
        record { low = omega arith; high = omega arith; long = omega arith }

-- a plan of at most 186 events
abbrev Small : {A : Type 0} → Planned A → Type 0
Small p = length p.events ≤ events_most

small_if : {A : Type 0} (b : Bool) (p q : Planned A) → (b ≡ true → Small p) → (b ≡ false → Small q) → Small (if b then p else q)
small_if true p q h k = h refl
small_if false p q h k = k refl

-- the path of a put has at most eight levels, so that a split that needs no more than eight nodes splits at most seven
split_small : (m : List ℕ) (k : ℕ) (above : List ℕ) (r : Record) → full (view m k) ≡ true → length above ≤ 7
    → needed m (k ∷ above) ≤ 8 → length (plan_events (split m k above r)) ≤ events_most
split_small m k above r t h n =
    let d = depth m (k ∷ above) in
    omega (arith, no_more m k above r t, d.low, d.high, d.long)

fill_small : (k : ℕ) (u : View) (r : Record) → length (fill_events k u r) ≤ events_most
fill_small k u r = rw entry_stored (omega arith)

put_at_small : (m : List ℕ) (key value k : ℕ) (above : List ℕ) → length above ≤ 7 → Small (put_at m key value k above)
unfolding put_at
put_at_small m key value k above h =
    small_if (has key (keys (view m k).records)) _ _ (λ t. omega arith) (λ t.
    small_if (not (full (view m k))) _ _ (λ t. fill_small k (view m k) (key, value)) (λ t.
    small_if (ltb (capacity_of m - used_of m) (needed m (k ∷ above))) _ _ (λ t. omega arith) (λ t'.
    small_if (ltb height_most (needed m (k ∷ above))) _ _ (λ t. omega arith) (λ n.
    split_small m k above (key, value) (not-false (full (view m k)) t) h (ltb-false height_most (needed m (k ∷ above)) n)))))

delete_at_small : (m : List ℕ) (key k : ℕ) (above : List ℕ) → Small (delete_at m key k above)
unfolding delete_at
delete_at_small m key k above = small_if (has key (keys (view m k).records)) _ _ (λ t. omega arith) (λ t. omega arith)

-- past the refusals, at the leaf
leaf_small : (m : List ℕ) (key : ℕ) (body : ℕ → List ℕ → Planned Outcome)
    → ((k : ℕ) (above : List ℕ) → length above ≤ 7 → Small (body k above)) → Small (at_leaf body (way_to m key))
leaf_small m key body f = go (way_to m key) refl
  where
    go : (w : Way) → way_to m key ≡ w → Small (at_leaf body w)
    go (failed node) e = omega arith
    go (leaf k above) e = f k above (omega (arith, way_to_length m key e, (counts m (way_to_counts m key e)).height))

gate_small : (m : List ℕ) (p : Planned Outcome) → Small p → Small (past_gate refused m p)
gate_small m p h =
    small_if (not (form_agrees m)) _ _ (λ t. omega arith) (λ t. small_if (not (eqb (commit_of m) 0)) _ _ (λ t. omega arith) (λ t. h))

list_small : (room : ℕ) (p : Planned Outcome) → Small p → Small (past_list refused room p)
list_small room p h = small_if (ltb room list_words) _ _ (λ t. omega arith) (λ t. h)

serves : (room : ℕ) (m : List ℕ) (q : Request) → Small (serve room m q)
serves room m (Put key value) =
    list_small room _ (gate_small m _ (leaf_small m key (put_at m key value) (put_at_small m key value)))
serves room m (Fetch key) = gate_small m _ (leaf_small m key (fetch_at m key) (λ k above h. omega arith))
serves room m (Delete key) =
    list_small room _ (gate_small m _ (leaf_small m key (delete_at m key) (λ k above h. delete_at_small m key k above)))

recover_small : (m : List ℕ) → Small (recover_past_form m)
unfolding recover_past_form
recover_small m =
    small_if (eqb (commit_of m) 0) _ _ (λ t. omega arith) (λ t.
    small_if (not (log_agrees m)) _ _ (λ t. omega arith) (λ t.
    log_small (not-false (log_agrees m) t)))
  where
    log_small : log_agrees m ≡ true → length (log_finished (log_pairs (commit_of m) pairs_at m)) ≤ events_most
    log_small t =
        omega (
          arith,
          finished_count (log_pairs (commit_of m) pairs_at m),
          length_log_pairs (commit_of m) pairs_at m,
          (log_says m t).0,
        )

recovers : (room : ℕ) (m : List ℕ) → Small (recover room m)
recovers room m =
    small_if (ltb room list_words) _ _ (λ t. omega arith) (λ t.
    small_if (not (form_agrees m)) _ _ (λ t. omega arith) (λ t. recover_small m))

formats : (room size capacity : ℕ) → Small (format room size capacity)
unfolding format_past_list
formats room size capacity =
    small_if (ltb room list_words) _ _ (λ t. omega arith) (λ t.
    small_if (not (within 1 capacity capacity_most)) _ _ (λ t. omega arith) (λ t.
    small_if (ltb size (total_of capacity)) _ _ (λ t. omega arith) (λ t. omega (arith, format_count capacity))))

pub table : Most
table = record { kept_row = refl; new_row = refl; no_more = no_more; reached = reached }

pub fits : Fits
fits = record { serves = serves; recovers = recovers; formats = formats; words = omega arith }
