-- What each request leaves in a well-formed pool once all its events are carried out: the map's rule, or refusal 5.
use Prim.Native.Nat.{ℕ, ◌-◌, ◌≤◌, ◌<◌}
use mathlib.Core.Path.{◌≡◌, refl, sym, ◌∙◌, fun_ext}
use mathlib.Core.List.{List, ◌∷◌}
use mathlib.Core.Bool.{Bool, true, false}
use mathlib.Core.Option.{none, some}
use native.Mathlib.Omega.{arith}
use lib.ListN.{length}
use lib.Dec.{eqb}
use borrow.Author.Tests.{eqb-true, eqb-false}
use Rattle.std.specs.Prelude.{if◌then◌else◌, Ok}
use Rattle.words.specs.Pool.{list_words}
use Rattle.words.specs.Event.{run}
use Rattle.words.specs.declared.refusal.Refusal.TheVariants.{NoRoom}
use Rattle.words.proofs.Tests.{differ}
use Rattle.node.specs.Lists.{has}
use Rattle.node.specs.Slot.{entries}
use Rattle.node.specs.View.{view, keys, no_end}
use Rattle.tree.specs.Header.{capacity_of, used_of}
use Rattle.tree.specs.Path.{leaf}
use Rattle.tree.specs.WellFormed.{WellFormed}
use Rattle.tree.specs.Map.{map_of}
use Rattle.tree.proofs.Hole.{above}
use Rattle.tree.proofs.Way.{Reached, reach}
use Rattle.tree.proofs.Map.{map_at, map_present, map_absent}
use Rattle.tree.proofs.After.{After}
use Rattle.tree.proofs.Count.{split_needs}
use Rattle.change.specs.declared.Request.{Request}
use Rattle.change.specs.declared.Request.TheVariants.{Put, Fetch, Delete}
use Rattle.change.specs.declared.Outcome.{Outcome}
use Rattle.change.specs.declared.Outcome.TheVariants.{New, Replaced, Removed, Absent}
use Rattle.change.specs.Gate.{Planned, quiet, refused}
use Rattle.change.specs.Steps.{full}
use Rattle.change.specs.Fetch.{said, fetch_at, fetch}
use Rattle.change.specs.Delete.{delete_at, delete}
use Rattle.change.specs.Put.{needed, put_at, put}
use Rattle.change.specs.Room.{LacksRoom, Crowded}
use Rattle.change.specs.Calls.{serve, key_of}
use Rattle.change.specs.Rule.{changed, rule}
use Rattle.change.proofs.Leaf.{leaf_node, deleted, replaced, filled}
use Rattle.change.proofs.Split.{needed_needs, split_leaves}
use Rattle.change.proofs.Cases.{list_passes, gate_passes, PutAt, replaces, fills, crowded, too_high, splits, put_case}

-- what delete plans: nothing for an absent key, or events that take the key out
pub data Deletes (m : List ℕ) (key : ℕ) (p : Planned Outcome) : Type 0 where
  absent : map_of m key ≡ none → p ≡ quiet Absent → Deletes m key p
  removed : (old : ℕ) → map_of m key ≡ some old → p.answer ≡ Ok Removed → After m (run m p.events) key none → Deletes m key p

-- what put plans: events that replace the value of a present key, or that put an absent one in; or it is refused for want of room
pub data Puts (m : List ℕ) (key value : ℕ) (p : Planned Outcome) : Type 0 where
  present : (old : ℕ) → map_of m key ≡ some old → p.answer ≡ Ok Replaced → After m (run m p.events) key (some value) → Puts m key value p
  new : map_of m key ≡ none → ¬ LacksRoom m key → p.answer ≡ Ok New → After m (run m p.events) key (some value) → Puts m key value p
  too_full : LacksRoom m key → p ≡ refused NoRoom → Puts m key value p

module _ {m : List ℕ} (w : WellFormed m) where
  pub fetch_served : (key : ℕ) → key < no_end → fetch m key ≡ quiet (said (map_of m key))
  fetch_served key h = let y = reach m key w h in gate_passes (fetch_at m key) w y ∙ rw (map_at y)

  -- at the leaf
  module _ {key : ℕ} (y : Reached m key) where
    abbrev k : ℕ
    k = y.place.number

    is_there : has key (keys (view m y.place.number).records) ≡ true → (old : ℕ) × (map_of m key ≡ some old)
    is_there h = (_, map_present y h)

    delete_leaves : Deletes m key (delete_at m key y.place.number (above y.up))
    unfolding delete_at
    delete_leaves = go (has key (keys (view m k).records)) refl
      where
        go : (b : Bool) → has key (keys (view m k).records) ≡ b → Deletes m key (delete_at m key k (above y.up))
        go true t = let o = is_there t in rw t (removed o.0 o.1 refl (deleted w y t))
        go false t = rw t (absent (map_absent y t) refl)

    -- a crowded key is at this leaf
    crowded_here : LacksRoom m key
        → (full (view m y.place.number) ≡ true) × (capacity_of m - used_of m < needed m (y.place.number ∷ above y.up))
    crowded_here c =
        let e : leaf c.node c.above ≡ leaf k (above y.up) = sym c.way ∙ y.is in
        let a : c.node ≡ k = cc in
        let b : c.above ≡ above y.up = cc in
        (rw a at c.is_full, rw (a, b) at c.short)

    put_leaves : (value : ℕ) (p : Planned Outcome) → PutAt m key value y.place.number (above y.up) p → Puts m key value p
    put_leaves value p (replaces t) = let o = is_there t in present o.0 o.1 refl (replaced w y t value)
    put_leaves value p (fills t f) =
        let e = eqb-false (length (view m k).named) entries f in
        new (map_absent y t) (λ c. differ (sym (crowded_here c).0 ∙ f)) refl
        (filled w y value (omega (arith, (leaf_node w y).names.few)) t)
    put_leaves value p (crowded t f s) =
        let lacks : LacksRoom m key = record {
          node = k;
          above = above y.up;
          way = y.is;
          absent = map_absent y t;
          is_full = f;
          short = s;
        } in
        too_full lacks refl
    put_leaves value p (too_high h) = absurd (omega (arith, needed_needs m (k ∷ above y.up), split_needs w y))
    put_leaves value p (splits t f s) =
        new (map_absent y t) (λ c. omega (arith, (crowded_here c).1)) refl (split_leaves w y value f s t)

  module _ (room key : ℕ) (long : list_words ≤ room) (small : key < no_end) where
    pub delete_served : Deletes m key (delete room m key)
    delete_served =
        let y = reach m key w small in
        rw (list_passes room _ long ∙ gate_passes (delete_at m key) w y) (delete_leaves y)

    pub put_served : (value : ℕ) → Puts m key value (put room m key value)
    put_served value =
        let y = reach m key w small in
        rw (list_passes room _ long ∙ gate_passes (put_at m key value) w y)
        (put_leaves y value _ (put_case m key value y.place.number (above y.up)))

-- the plan of a request: it answers by the map's rule and its events leave a well-formed pool with the map that the rule says; or
-- it is refused with no events, exactly where it needs more room than there is
pub data Served (m : List ℕ) (q : Request) (p : Planned Outcome) : Type 0 where
  by_rule : ¬ Crowded m q → p.answer ≡ Ok (rule q (map_of m)).0 → WellFormed (run m p.events)
      → map_of (run m p.events) ≡ (rule q (map_of m)).1 → Served m q p
  no_room : Crowded m q → p ≡ refused NoRoom → Served m q p

-- taking out an absent key changes nothing
unchanged : (m : List ℕ) (key : ℕ) → map_of m key ≡ none → map_of m ≡ changed key none (map_of m)
unchanged m key e = fun_ext (λ q. go q (eqb q key) refl)
  where
    go : (q : ℕ) (b : Bool) → eqb q key ≡ b → map_of m q ≡ (if b then none else map_of m q)
    go q true t = let i : q ≡ key = eqb-true q key t in rw i e
    go q false t = refl

put_rule : {m : List ℕ} (key value : ℕ) (p : Planned Outcome) → Puts m key value p → Served m (Put key value) p
put_rule key value p (present old e a c) =
    by_rule (λ n. let z : none ≡ some old = sym n.absent ∙ e in let z' : ◌≡◌ {A = ℕ} 0 1 = cc in omega arith)
    (rw e a) c.well_formed c.map_is
put_rule key value p (new e n a c) = by_rule n (rw e a) c.well_formed c.map_is
put_rule key value p (too_full c i) = no_room c i

module _ {m : List ℕ} (w : WellFormed m) where
  delete_rule : (key : ℕ) (p : Planned Outcome) → Deletes m key p → Served m (Delete key) p
  delete_rule key p (absent e i) = rw i (by_rule (λ x. x) (rw e) w (unchanged m key e))
  delete_rule key p (removed old e a c) = by_rule (λ x. x) (rw e a) c.well_formed c.map_is

  pub serve_served : (room : ℕ) (q : Request) → list_words ≤ room → key_of q < no_end → Served m q (serve room m q)
  serve_served room (Put key value) long small = put_rule key value (put room m key value) (put_served w room key long small value)
  serve_served room (Fetch key) long small = rw (fetch_served w key small) (by_rule (λ x. x) refl w refl)
  serve_served room (Delete key) long small = delete_rule key (delete room m key) (delete_served w room key long small)
