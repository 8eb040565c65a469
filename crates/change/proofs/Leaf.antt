-- Delete, a value replaced, and a put into a leaf with room: what each leaves in a well-formed pool.
use Prim.Native.Nat.{ℕ, ◌+◌, ◌≤◌, ◌<◌}
use mathlib.Core.Path.{◌≡◌, ◌∙◌, ap}
use mathlib.Core.List.{List, [], ◌∷◌}
use mathlib.Core.Bool.{true, false}
use mathlib.Core.Option.{none, some}
use native.Mathlib.Omega.{arith}
use lib.ListN.{length, get_or, set, length-map}
use Rattle.words.specs.Pool.{node_words, node_at}
use Rattle.words.specs.declared.event.Event.TheVariants.{Fence as fence}
use Rattle.words.specs.Event.{at, run}
use Rattle.words.specs.Blocks.{Pair, once, stores, stored}
use Rattle.words.proofs.Events.{run_append, length_run, run_off}
use Rattle.words.proofs.Blocks.{stores_stores, run_stored}
use Rattle.node.specs.Lists.{has}
use Rattle.node.specs.Slot.{entries}
use Rattle.node.specs.View.{Record, View, view, keys, rank, slot_at, value_at}
use Rattle.node.proofs.Every.{below_at}
use Rattle.node.proofs.Ranks.{found_at}
use Rattle.tree.specs.Header.{total_in, capacity_of, used_of}
use Rattle.tree.specs.Kids.{leaf_least}
use Rattle.tree.specs.WellFormed.{WellFormed}
use Rattle.tree.proofs.Lists.{each_append, one_self}
use Rattle.tree.proofs.Keys.{rise_rising}
use Rattle.tree.proofs.Fits.{Node, fits_says, view_sized}
use Rattle.tree.proofs.Form.{form, counts}
use Rattle.tree.proofs.Frame.{whole_named}
use Rattle.tree.proofs.Along.{along_range}
use Rattle.tree.proofs.Way.{Reached}
use Rattle.tree.proofs.After.{After, Elsewhere, put_after, replace_after, delete_after}
use Rattle.change.specs.Steps.{entry_pairs, taken_slot, fill_spot, removed_slot}
use Rattle.change.specs.Put.{replace_events, fill_events}
use Rattle.change.proofs.Pairs.{Within, Apart, within_at, within_weaken, stores_stand}
use Rattle.change.proofs.Goes.{Goes, AllGo, once_goes, stored_goes}
use Rattle.change.proofs.Nodes.{InNode, Became, view_still, taken_pairs, taken_in}
use Rattle.change.proofs.Nodes.{taken_apart, removed_says, replaced_says, taken_says}

module _ {m : List ℕ} (w : WellFormed m) where
  -- the nodes lie below the total, and that within the slice
  pub node_inside : (j : ℕ) → j ≤ capacity_of m → (node_at j + node_words ≤ total_in m) × (total_in m ≤ length m)
  node_inside j h = let f = form m w.form in (omega (arith, f.total), f.room)

  pub used_inside : (j : ℕ) → j ≤ used_of m → (node_at j + node_words ≤ total_in m) × (total_in m ≤ length m)
  used_inside j h = node_inside j (omega (arith, (counts m w.counts).used))

  module _ {key : ℕ} (y : Reached m key) where
    abbrev k : ℕ
    k = y.place.number

    abbrev u : View
    u = view m k

    pub leaf_range : (1 ≤ y.place.number) × (y.place.number ≤ used_of m)
    leaf_range = along_range w.whole y.around k (omega (arith, one_self k))

    pub leaf_node : Node leaf_least y.place.from y.place.upto (view m k)
    leaf_node = fits_says leaf_least y.place.from y.place.upto u y.fit

    -- pairs for words of the leaf
    module _ (ps : List Pair) (here : Within (InNode k) ps) where
      off : (x : ℕ) → ¬ InNode k x → at (run m (stores ps)) x ≡ at m x
      off x n = run_off m (stores ps) x (λ s. n (within_at (InNode k) ps x here ((stores_stores x ps).0 s)))

      elsewhere : Elsewhere m (run m (stores ps)) y.place.number
      elsewhere = record {
        size = length_run m (stores ps);
        header = λ i h. off i (λ n. omega (arith, n.0, leaf_range));
        off = λ j p q d. view_still m (run m (stores ps)) j (whole_named w.whole j p q) (λ x n.
            off x (λ n'. d (omega (arith, n, n'))));
      }

      became : Apart ps → Became m (run m (stores ps)) y.place.number ps
      became a =
          let room = used_inside k leaf_range.1 in
          record {
            stands = stores_stand ps m a (within_weaken (InNode k) ps (λ x n. omega (arith, n.1, room)) here);
            still = λ x n o. run_off m (stores ps) x (λ s. o ((stores_stores x ps).0 s));
          }

    pub deleted_goes : AllGo (InNode y.place.number) (once (slot_at k) (removed_slot u key))
    deleted_goes = once_goes (InNode k) (slot_at k) (removed_slot u key) (omega arith, omega arith)

    -- a key that is there stands at its rank
    module _ (present : has key (keys (view m k).records) ≡ true) where
      at_rank : (rank u key < length u.named) × (get_or (keys u.records) (rank u key) 0 ≡ key)
      at_rank =
          let f = found_at key (keys u.records) (rise_rising leaf_node.rises) present in
          (omega (arith, f.0, length-map u.records (λ (r : Record). r.0), view_sized m k), f.1)

      pub deleted : After m (run m (once (slot_at k) (removed_slot u key))) key none
      deleted =
          let ps : List Pair = (slot_at k, removed_slot u key) ∷ [] in
          let here : Within (InNode k) ps = ((omega arith, omega arith), tt) in
          delete_after w y (elsewhere ps here) present
          (removed_says leaf_node.names (rank u key) at_rank.0 (became ps here ((λ x. x), tt)))

      pub replaced_goes : (v : ℕ) → AllGo (InNode y.place.number) (replace_events k u (key, v))
      replaced_goes v =
          let l = below_at entries (rank u key) u.named leaf_node.names.small at_rank.0 in
          once_goes (InNode k) (value_at k (get_or u.named (rank u key) 0)) v (omega arith, omega arith)

      pub replaced : (v : ℕ) → After m (run m (replace_events k u (key, v))) key (some v)
      replaced v =
          let ps : List Pair = (value_at k (get_or u.named (rank u key) 0), v) ∷ [] in
          let l = below_at entries (rank u key) u.named leaf_node.names.small at_rank.0 in
          let here : Within (InNode k) ps = ((omega arith, omega arith), tt) in
          replace_after w y (elsewhere ps here) present v
          (replaced_says leaf_node.names (rank u key) key v at_rank.0 at_rank.1 (became ps here ((λ x. x), tt)))

    -- a leaf with room
    fill_run : (r : Record) → run m (fill_events k u r) ≡ run m (stores (taken_pairs k u r))
    fill_run r =
        run_append m (stored (entry_pairs k (fill_spot u) r)) (fence ∷ once (slot_at k) (taken_slot u r.0 (fill_spot u)))
        ∙ ap (λ (x : List ℕ). set x (slot_at k) (taken_slot u r.0 (fill_spot u))) (run_stored m (entry_pairs k (fill_spot u) r))

    module _ (v : ℕ) (room : length (view m k).named < entries) where
      here : Within (InNode k) (taken_pairs k u (key, v))
      here = taken_in k u (key, v) room

      pub filled_goes : AllGo (InNode y.place.number) (fill_events k u (key, v))
      filled_goes =
          each_append (Goes (InNode k)) (stored (entry_pairs k (fill_spot u) (key, v)))
          (fence ∷ once (slot_at k) (taken_slot u key (fill_spot u)))
          (stored_goes (InNode k) (entry_pairs k (fill_spot u) (key, v)) (here.0, (here.1.0, tt)))
          (tt, once_goes (InNode k) (slot_at k) (taken_slot u key (fill_spot u)) here.1.1.0)

      pub filled : has key (keys (view m k).records) ≡ false → After m (run m (fill_events k u (key, v))) key (some v)
      filled absent =
          let ps : List Pair = taken_pairs k u (key, v) in
          rw (fill_run (key, v)) (put_after w y (elsewhere ps here) v absent room
          (taken_says leaf_node.names (key, v) room (became ps here (taken_apart k u (key, v)))))
