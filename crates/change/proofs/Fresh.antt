-- Format leaves a well-formed pool with no records.
use Prim.Native.Nat.{ℕ, ◌≤◌, ◌<◌}
use mathlib.Core.Path.{◌≡◌, refl, ◌∙◌, ap}
use mathlib.Core.List.{List, [], ◌∷◌, ◌++◌}
use native.Mathlib.Omega.{arith}
use lib.ListN.{length, set, length-set}
use lib.Seq.{get_or-set_same, get_or-set_other}
use Rattle.words.specs.Pool as p
use Rattle.words.specs.declared.event.Event.TheVariants.{Fence as fence}
use Rattle.words.specs.Event.{at, run}
use Rattle.words.specs.Blocks.{once, stores, stored}
use Rattle.words.proofs.Events.{run_append, length_run}
use Rattle.words.proofs.Blocks.{run_stored}
use Rattle.node.specs.Lists.{all_below, different, rising, covered}
use Rattle.node.specs.Slot.{names, bytes}
use Rattle.node.specs.View.{view, good, sound}
use Rattle.tree.specs.WellFormed.{WellFormed, Whole}
use Rattle.tree.specs.Map.{records_of}
use Rattle.tree.proofs.Form.{form_back, counts_back}
use Rattle.tree.proofs.Lists.{one_says}
use Rattle.change.specs.Format.{fresh_words, format_events}
use Rattle.change.proofs.Stored.{last_in, at_stores}

module _ (m : List ℕ) (capacity : ℕ) (some : 1 ≤ capacity) (few : capacity ≤ p.capacity_most) (fits : p.total_of capacity ≤ length m) where
  abbrev after : List ℕ
  after = run m (format_events capacity)

  abbrev before_form : List ℕ
  before_form = run (set m p.form_at 0) (stores (fresh_words capacity))

  ran : run m (format_events capacity) ≡ set before_form p.form_at p.form
  unfolding format_events
  ran =
      run_append m (once p.form_at 0) (stored (fresh_words capacity) ++ (fence ∷ once p.form_at p.form))
      ∙ (run_append (set m p.form_at 0) (stored (fresh_words capacity)) (fence ∷ once p.form_at p.form)
      ∙ ap (λ (x : List ℕ). set x p.form_at p.form) (run_stored (set m p.form_at 0) (fresh_words capacity)))

  size : length (run m (format_events capacity)) ≡ length m
  size = length_run m (format_events capacity)

  long : length before_form ≡ length m
  long = length_run (set m p.form_at 0) (stores (fresh_words capacity)) ∙ length-set m p.form_at 0

  at_form : at after p.form_at ≡ p.form
  at_form = ap (λ (x : List ℕ). at x p.form_at) ran ∙ get_or-set_same before_form p.form_at p.form 0 (rw long (omega arith))

  at_word : (w : ℕ) → 1 ≤ w → w < p.words_least → at after w ≡ last_in (fresh_words capacity) w (at (set m p.form_at 0) w)
  at_word w low high =
      ap (λ (x : List ℕ). at x w) ran
      ∙ (get_or-set_other before_form p.form_at w p.form 0 (omega arith)
      ∙ at_stores (fresh_words capacity) (set m p.form_at 0) w (rw length-set (omega arith)))

  empty : view after 1 ≡ record { link = 0; named = []; records = [] }
  unfolding view names bytes
  empty = rw (at_word 72 (omega arith) (omega arith), at_word 73 (omega arith) (omega arith))

  pub fresh_well_formed : WellFormed (run m (format_events capacity))
  fresh_well_formed =
      let total : at after p.total_at ≡ p.total_of capacity = at_word p.total_at (omega arith) (omega arith) in
      let log : at after p.log_offset_at ≡ p.log_at = at_word p.log_offset_at (omega arith) (omega arith) in
      let nodes : at after p.nodes_offset_at ≡ p.nodes_at = at_word p.nodes_offset_at (omega arith) (omega arith) in
      let cap : at after p.capacity_at ≡ capacity = at_word p.capacity_at (omega arith) (omega arith) in
      let used : at after p.used_at ≡ 1 = at_word p.used_at (omega arith) (omega arith) in
      let root : at after p.root_at ≡ 1 = at_word p.root_at (omega arith) (omega arith) in
      let height : at after p.height_at ≡ 1 = at_word p.height_at (omega arith) (omega arith) in
      let whole : Whole (view after) 1 0 1 = record {
        fit = rw empty (unfold good sound different rising all_below covered in refl);
        linked = (rw empty, tt);
        once = λ k low high. let e : k ≡ 1 = omega arith in rw e;
        only = λ k h. let e : k ≡ 1 = one_says k 1 (omega arith) in omega arith;
      } in
      record {
        clean = at_word p.commit_at (omega arith) (omega arith);
        form = form_back after (record {
          least = rw size (omega arith);
          number = at_form;
          capacity = (omega arith, omega arith);
          total = rw cap total;
          log = log;
          nodes = nodes;
          room = rw size (omega arith);
        });
        counts = counts_back after (record {
          used = (omega arith, omega arith);
          root = (omega arith, omega arith);
          height = (omega arith, omega arith);
        });
        whole = rw (used, root, height) whole;
      }

  pub fresh_records : records_of (run m (format_events capacity)) ≡ []
  fresh_records =
      let root : at after p.root_at ≡ 1 = at_word p.root_at (omega arith) (omega arith) in
      let height : at after p.height_at ≡ 1 = at_word p.height_at (omega arith) (omega arith) in
      rw (root, height, empty)
