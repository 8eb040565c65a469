-- The events of a split: 9l + 12 + 5r + 4p + ⌊p / 4⌋ for l split levels, r new roots and p pairs, on whatever memory.
use Prim.Native.Nat.{ℕ, zero, suc, ◌+◌, ◌*◌, ◌/◌, ◌≤◌}
use mathlib.Core.Path.{◌≡◌, refl, ap}
use mathlib.Core.List.{List, [], ◌∷◌, ◌++◌}
use mathlib.Core.Bool.{Bool, true, false}
use native.Mathlib.Omega.{arith}
use lib.ListN.{length, length-append, length-drop}
use lib.Dec.{ltb}
use borrow.Author.Tests.{eqb-true}
use Rattle.std.specs.Prelude.{if◌then◌else◌}
use Rattle.words.specs.Pool.{used_at}
use Rattle.words.specs.Blocks.{Pair, lines, stored}
use Rattle.words.proofs.Tests.{at_most_one}
use Rattle.words.proofs.Blocks.{length_replay}
use Rattle.node.specs.Slot.{entries}
use Rattle.node.specs.View.{Record, View, view, rank, slot_at, link_at}
use Rattle.tree.specs.Header.{used_of, root_of}
use Rattle.tree.specs.Halves.{eight, lower, upper_four, fifth, upper_three, supply, used_with}
use Rattle.tree.proofs.Fits.{view_sized}
use Rattle.tree.proofs.Eight.{eight_more}
use Rattle.change.specs.Steps.{full, entry_pairs, taken_slot, parent_spot, new_node, staying_pairs}
use Rattle.change.specs.Plan.{Plan, new_nodes, log_written, log_replayed, log_finished, log_events, plan_events}
use Rattle.change.specs.Format.{format_events}
use Rattle.change.specs.Recover.{log_pairs}
use Rattle.change.specs.Put.{rise, split, needed}
use Rattle.change.specs.Most.{most, split_levels, new_roots, Counted}
use Rattle.change.proofs.Lines.{node_events, log_stored}

-- (b) to (e) of p pairs
pub log_count : (ps : List Pair) → 1 ≤ length ps → length (log_events ps) ≡ 4 * length ps + length ps / 4 + 9
unfolding log_events log_written log_finished log_replayed
log_count ps h = simp (length-append, length_replay, log_stored ps h) (omega arith)

pub plan_count : (p : Plan) → 1 ≤ length p.pairs
    → length (plan_events p) ≡ length (new_nodes p.nodes) + 4 * length p.pairs + length p.pairs / 4 + 9
unfolding plan_events
plan_count p h = rw length-append (omega (arith, log_count p.pairs h))

-- "Recovered with the pair count c, 2c + 4 events"
pub finished_count : (ps : List Pair) → length (log_finished ps) ≡ 2 * length ps + 4
unfolding log_finished log_replayed
finished_count ps = simp (length-append, length_replay) (omega arith)

pub length_log_pairs : (n w : ℕ) (m : List ℕ) → length (log_pairs n w m) ≡ n
unfolding log_pairs
length_log_pairs zero w m = refl
length_log_pairs (suc n) w m = ap suc (length_log_pairs n (w + 2) m)

-- "Format: .. 20 events"
pub format_count : (capacity : ℕ) → length (format_events capacity) ≡ 20
unfolding format_events stored lines
format_count capacity = refl

-- a full node and a new record make eight
pub length_eight : (m : List ℕ) (k : ℕ) (r : Record) → full (view m k) ≡ true → length (eight (view m k) r) ≡ 8
length_eight m k r t =
    omega (
      arith,
      eight_more (view m k) r,
      eqb-true (length (view m k).named) entries t,
      view_sized m k,
    )

-- the pairs of a split level: two more if its new record stays
stays : View → Record → ℕ
stays u r = if ltb (rank u r.0) lower then 1 else 0

stays_one : (u : View) (r : Record) → stays u r ≤ 1
unfolding stays
stays_one u r = at_most_one (ltb (rank u r.0) lower)

length_staying : (k : ℕ) (u : View) (r : Record) (ws : List Pair) → length (staying_pairs k u r ws) ≡ 2 * stays u r + length ws + 1
unfolding staying_pairs stays
length_staying k u r ws = go (ltb (rank u r.0) lower) refl
  where
    go : (b : Bool) → ltb (rank u r.0) lower ≡ b → length (staying_pairs k u r ws) ≡ 2 * stays u r + length ws + 1
    go true t = simp (t, length-append) (omega arith)
    go false t = simp (t, length-append) (omega arith)

pub staying_few : (k : ℕ) (u : View) (r : Record) (ws : List Pair) → length (staying_pairs k u r ws) ≤ 3 + length ws
staying_few k u r ws = omega (arith, length_staying k u r ws, stays_one u r)

module _ (m : List ℕ) (k : ℕ) (above : List ℕ) where
  -- a level that is full splits, the first that is not takes the record
  pub levels_full : full (view m k) ≡ true → split_levels m (k ∷ above) ≡ suc (split_levels m above)
  unfolding split_levels
  levels_full t = rw t

  pub levels_room : full (view m k) ≡ false → split_levels m (k ∷ above) ≡ 0
  unfolding split_levels
  levels_room t = rw t

  pub needed_full : full (view m k) ≡ true → needed m (k ∷ above) ≡ suc (needed m above)
  unfolding needed
  needed_full t = rw t

  pub needed_room : full (view m k) ≡ false → needed m (k ∷ above) ≡ 0
  unfolding needed
  needed_room t = rw t

  module _ (up : Record) (i : ℕ) where
    abbrev rest : Plan
    rest = rise m above ((fifth (view m k) up).0, supply (used_of m) i) (i + 1)

    abbrev over : List Record
    over = upper_three (view m k) up

    rise_full : full (view m k) ≡ true → rise m (k ∷ above) up i ≡ record {
      nodes = new_node (supply (used_of m) i) (fifth (view m k) up).1 over ∷ rest.nodes;
      pairs = staying_pairs k (view m k) up [] ++ rest.pairs;
    }
    unfolding rise
    rise_full t = rw t

    rise_room : full (view m k) ≡ false → rise m (k ∷ above) up i ≡ record {
      nodes = [];
      pairs = entry_pairs k (parent_spot (view m k)) up
          ++ ((slot_at k, taken_slot (view m k) up.0 (parent_spot (view m k))) ∷ (used_at, used_with (used_of m) i) ∷ []);
    }
    unfolding rise
    rise_room t = rw t

length_new : (n : List Pair) (ns : List (List Pair)) → length (new_nodes (n ∷ ns)) ≡ length (stored n) + length (new_nodes ns)
unfolding new_nodes
length_new n ns = length-append (stored n) (new_nodes ns)

-- what the rise of a record plans
record Risen (m above : List ℕ) (up : Record) (i : ℕ) : Type 0 where
  staying : ℕ
  root : ℕ
  few : staying ≤ split_levels m above
  one : root ≤ 1
  need : needed m above ≡ split_levels m above + root
  nodes : length (rise m above up i).nodes ≡ needed m above
  made : length (new_nodes (rise m above up i).nodes) ≡ 9 * split_levels m above + 5 * root
  pairs : length (rise m above up i).pairs + root ≡ split_levels m above + 2 * staying + 4

risen : (m above : List ℕ) (up : Record) (i : ℕ) → Risen m above up i
risen m [] up i = top
  where
    top : Risen m [] up i
    top = unfold rise needed split_levels new_nodes in (record {
      staying = 0;
      root = 1;
      few = omega arith;
      one = omega arith;
      need = refl;
      nodes = refl;
      made = rw (length-append, node_events (supply (used_of m) i) (root_of m) (up ∷ []));
      pairs = refl;
    })
risen m (k ∷ above) up i = go (risen m above ((fifth (view m k) up).0, supply (used_of m) i) (i + 1)) (full (view m k)) refl
  where
    go : Risen m above ((fifth (view m k) up).0, supply (used_of m) i) (i + 1) → (b : Bool) → full (view m k) ≡ b
        → Risen m (k ∷ above) up i
    go x true t = record {
      staying = stays (view m k) up + x.staying;
      root = x.root;
      few = rw (levels_full m k above t) (omega (arith, x.few, stays_one (view m k) up));
      one = x.one;
      need = rw (levels_full m k above t, needed_full m k above t) (omega (arith, x.need));
      nodes = rw (rise_full m k above up i t, needed_full m k above t) (omega (arith, x.nodes));
      made = rw (rise_full m k above up i t, levels_full m k above t) events;
      pairs = rw (rise_full m k above up i t, levels_full m k above t, length-append, length_staying k (view m k) up [])
          (omega (arith, x.pairs));
    }
      where
        events : length (new_nodes
            (new_node (supply (used_of m) i) (fifth (view m k) up).1 (over m k above up i) ∷ (rest m k above up i).nodes))
            ≡ 9 * suc (split_levels m above) + 5 * x.root
        events = rw (length_new, node_events (supply (used_of m) i) (fifth (view m k) up).1 (over m k above up i))
            (omega (arith, x.made, length-drop (lower + 1) (eight (view m k) up), length_eight m k up t))
    go x false t = record {
      staying = 0;
      root = 0;
      few = omega arith;
      one = omega arith;
      need = rw (levels_room m k above t, needed_room m k above t);
      nodes = rw (rise_room m k above up i t, needed_room m k above t);
      made = rw (rise_room m k above up i t, levels_room m k above t) (unfold new_nodes in refl);
      pairs = rw (rise_room m k above up i t, levels_room m k above t);
    }

module _ (m : List ℕ) (k : ℕ) (above : List ℕ) (r : Record) (t : full (view m k) ≡ true) where
  abbrev up : Record
  up = ((fifth (view m k) r).0, supply (used_of m) 0)

  below : Risen m above up 1
  below = risen m above up 1

  abbrev s : ℕ
  s = stays (view m k) r + below.staying

  pairs : length (split m k above r).pairs + below.root ≡ split_levels m (k ∷ above) + 2 * s + 5
  unfolding split
  pairs =
      rw (levels_full m k above t, length-append, length_staying k (view m k) r ((link_at k, supply (used_of m) 0) ∷ []))
      (omega (arith, below.pairs))

  nodes : length (split m k above r).nodes ≡ needed m (k ∷ above)
  unfolding split
  nodes = rw (needed_full m k above t) (omega (arith, below.nodes))

  made : length (new_nodes (split m k above r).nodes) ≡ 9 * split_levels m (k ∷ above) + 3 + 5 * below.root
  unfolding split
  made =
      rw (levels_full m k above t, length_new, node_events (supply (used_of m) 0) (view m k).link (upper_four (view m k) r))
      (omega (arith, below.made, length-drop lower (eight (view m k) r), length_eight m k r t))

  root_is : below.root ≡ new_roots m (k ∷ above)
  root_is = rw (levels_full m k above t, needed_full m k above t) (omega (arith, below.need))

  pub counted : Counted m k above r
  counted = record {
    staying = s;
    few = rw (levels_full m k above t) (omega (arith, below.few, stays_one (view m k) r));
    nodes = nodes;
    pairs = rw (← root_is) (omega (arith, pairs));
    events = rw (← root_is, plan_count (split m k above r) (omega (arith, pairs, below.one))) (omega (arith, pairs, made));
  }

  -- no split plans more than where each level keeps its new record
  pub no_more : length (plan_events (split m k above r)) ≤ most (new_roots m (k ∷ above)) (split_levels m (k ∷ above))
  no_more = omega (arith, counted.events, counted.few)

  -- seven levels have at most 26 pairs, which the log holds
  pub pairs_few : split_levels m (k ∷ above) ≤ 7 → length (split m k above r).pairs ≤ 26
  pairs_few h = omega (arith, counted.pairs, counted.few)
