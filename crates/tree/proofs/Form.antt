-- The header's tests, taken apart and put together: what passes them, and that they look at words 0 to 7 and the length alone.
use Prim.Native.Nat.{ℕ, ◌≤◌, ◌<◌}
use mathlib.Core.Path.{◌≡◌, ◌∙◌}
use mathlib.Core.List.{List}
use mathlib.Core.Bool.{Bool, true, ◌&&◌}
use native.Mathlib.Omega.{arith}
use lib.ListN.{length}
use lib.Dec.{leb, eqb}
use borrow.Author.Tests.{leb-true, eqb-true, le-leb, eq-eqb}
use Rattle.words.specs.Tests.{within}
use Rattle.words.specs.Pool as p
use Rattle.words.specs.Event.{at}
use Rattle.words.proofs.Tests.{both, within_says, within_of}
use Rattle.node.specs.View.{view}
use Rattle.tree.specs.Header.{total_in, capacity_of, used_of, root_of, height_of, form_agrees, counts_agree}
use Rattle.tree.specs.Kids.{root_kid}
use Rattle.tree.specs.Path.{levels_above}
use Rattle.tree.specs.WellFormed.{leaves, Whole, WellFormed}
use Rattle.tree.specs.Map.{records_in, records_of}

-- the slice and words 0 to 4 keep their rules
pub record Form (m : List ℕ) : Type 0 where
  pub least : p.words_least ≤ length m
  pub number : at m p.form_at ≡ p.form
  pub capacity : (1 ≤ capacity_of m) × (capacity_of m ≤ p.capacity_most)
  pub total : total_in m ≡ p.total_of (capacity_of m)
  pub log : at m p.log_offset_at ≡ p.log_at
  pub nodes : at m p.nodes_offset_at ≡ p.nodes_at
  pub room : total_in m ≤ length m

pub form : (m : List ℕ) → form_agrees m ≡ true → Form m
unfolding form_agrees
form m e =
    let a : Bool = leb p.words_least (length m) in
    let b : Bool = eqb (at m p.form_at) p.form in
    let c : Bool = within 1 (capacity_of m) p.capacity_most in
    let d : Bool = eqb (total_in m) (p.total_of (capacity_of m)) in
    let f : Bool = eqb (at m p.log_offset_at) p.log_at in
    let g : Bool = eqb (at m p.nodes_offset_at) p.nodes_at in
    let h₁ : ((a && b && c && d && f && g) ≡ true) × (leb (total_in m) (length m) ≡ true) = both e in
    let h₂ : ((a && b && c && d && f) ≡ true) × (g ≡ true) = both h₁.0 in
    let h₃ : ((a && b && c && d) ≡ true) × (f ≡ true) = both h₂.0 in
    let h₄ : ((a && b && c) ≡ true) × (d ≡ true) = both h₃.0 in
    let h₅ : ((a && b) ≡ true) × (c ≡ true) = both h₄.0 in
    let h₆ : (a ≡ true) × (b ≡ true) = both h₅.0 in
    record {
      least = leb-true p.words_least (length m) h₆.0;
      number = eqb-true (at m p.form_at) p.form h₆.1;
      capacity = within_says 1 (capacity_of m) p.capacity_most h₅.1;
      total = eqb-true (total_in m) (p.total_of (capacity_of m)) h₄.1;
      log = eqb-true (at m p.log_offset_at) p.log_at h₃.1;
      nodes = eqb-true (at m p.nodes_offset_at) p.nodes_at h₂.1;
      room = leb-true (total_in m) (length m) h₁.1;
    }

pub form_back : (m : List ℕ) → Form m → form_agrees m ≡ true
unfolding form_agrees
form_back m c =
    rw (
      le-leb p.words_least (length m) c.least,
      eq-eqb (at m p.form_at) p.form c.number,
      within_of 1 (capacity_of m) p.capacity_most c.capacity.0 c.capacity.1,
      eq-eqb (total_in m) (p.total_of (capacity_of m)) c.total,
      eq-eqb (at m p.log_offset_at) p.log_at c.log,
      eq-eqb (at m p.nodes_offset_at) p.nodes_at c.nodes,
      le-leb (total_in m) (length m) c.room,
    )

-- used is 1..capacity, root 1..used, height 1..8
pub record Counts (m : List ℕ) : Type 0 where
  pub used : (1 ≤ used_of m) × (used_of m ≤ capacity_of m)
  pub root : (1 ≤ root_of m) × (root_of m ≤ used_of m)
  pub height : (1 ≤ height_of m) × (height_of m ≤ p.height_most)

pub counts : (m : List ℕ) → counts_agree m ≡ true → Counts m
unfolding counts_agree
counts m e =
    let used : Bool = within 1 (used_of m) (capacity_of m) in
    let root : Bool = within 1 (root_of m) (used_of m) in
    let a : ((used && root) ≡ true) × (within 1 (height_of m) p.height_most ≡ true) = both e in
    let b : (used ≡ true) × (root ≡ true) = both a.0 in
    record {
      used = within_says 1 (used_of m) (capacity_of m) b.0;
      root = within_says 1 (root_of m) (used_of m) b.1;
      height = within_says 1 (height_of m) p.height_most a.1;
    }

pub counts_back : (m : List ℕ) → Counts m → counts_agree m ≡ true
unfolding counts_agree
counts_back m c =
    rw (
      within_of 1 (used_of m) (capacity_of m) c.used.0 c.used.1,
      within_of 1 (root_of m) (used_of m) c.root.0 c.root.1,
      within_of 1 (height_of m) p.height_most c.height.0 c.height.1,
    )

-- words 0 to 4 and the length decide the form, words 4 to 7 the counts
pub form_same : (m m' : List ℕ) → length m' ≡ length m → ((w : ℕ) → w < p.used_at → at m' w ≡ at m w)
    → form_agrees m' ≡ form_agrees m
unfolding form_agrees
form_same m m' s h = rw (s, h 0 (omega arith), h 1 (omega arith), h 2 (omega arith), h 3 (omega arith), h 4 (omega arith))

pub counts_same : (m m' : List ℕ) → ((w : ℕ) → w < p.commit_at → at m' w ≡ at m w) → counts_agree m' ≡ counts_agree m
unfolding counts_agree
counts_same m m' h = rw (h 4 (omega arith), h 5 (omega arith), h 6 (omega arith), h 7 (omega arith))

-- the same length and words 0 to 8: then only the tree is left
module _ (m m' : List ℕ) (size : length m' ≡ length m) (header : (i : ℕ) → i ≤ p.commit_at → at m' i ≡ at m i) where
  pub header_well_formed : WellFormed m → Whole (view m') (used_of m) (levels_above m) (root_of m) → WellFormed m'
  header_well_formed w t =
      let e5 : at m' 5 ≡ at m 5 = header 5 (omega arith) in
      let e6 : at m' 6 ≡ at m 6 = header 6 (omega arith) in
      let e7 : at m' 7 ≡ at m 7 = header 7 (omega arith) in
      record {
        clean = header 8 (omega arith) ∙ w.clean;
        form = form_same m m' size (λ i h. header i (omega arith)) ∙ w.form;
        counts = counts_same m m' (λ i h. header i (omega arith)) ∙ w.counts;
        whole = rw (e5, e6, e7) t;
      }

  pub header_records : records_of m' ≡ records_in (view m') (leaves (view m') (levels_above m) (root_kid m))
  header_records =
      let e6 : at m' 6 ≡ at m 6 = header 6 (omega arith) in
      let e7 : at m' 7 ≡ at m 7 = header 7 (omega arith) in
      rw (e6, e7)
