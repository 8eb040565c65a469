-- The way down, a node a turn: what is known at each, where it ends, and what it leaves known of the leaf.
use Prim.Native.Nat.{ℕ, zero, suc, ◌+◌, ◌-◌, ◌*◌, ◌≤◌, ◌<◌}
use mathlib.Core.Path.{◌≡◌, refl, sym, ◌∙◌, ap}
use mathlib.Core.List.{List, [], ◌∷◌}
use mathlib.Core.Bool.{true, false}
use native.Mathlib.Omega.{arith}
use lib.ListN.{length}
use lib.Dec.{ltb}
use mir.Val.{bool_byte}
use borrow.Author.Tests.{lt-ltb, le-leb}
use Rattle.std.specs.Prelude.{Err, Result}
use Rattle.words.specs.Tests.{within}
use Rattle.words.proofs.Tests.{within_says}
use Rattle.node.specs.View.{view, good, no_end}
use Rattle.node.specs.inner.Looked.{Inside, Placed}
use Rattle.node.specs.declared.cover.Look.{Look}
use Rattle.node.specs.declared.layout.Node.{Node}
use Rattle.tree.specs.declared.descend.Step.{Step}
use Rattle.tree.specs.declared.descend.Fault.{Fault}
use mathlib.Core.Logic.{inl, inr}
use Rattle.node.proofs.Views.{Good, good_parts}
use Rattle.node.proofs.Ends.{kept}
use Rattle.tree.specs.Header.{used_of, root_of, capacity_of, counts_agree, form_agrees}
use Rattle.tree.specs.Kids.{Kid, kid, pick, leaf_least, inner_least}
use Rattle.tree.specs.Path.{failed, leaf, parent, way, levels_above, way_to}
use Rattle.tree.specs.inner.Descended.{Seated, Child, MetGood, Met, kid_after}
use Rattle.tree.proofs.Form.{Form, Counts, form, counts}
use Rattle.tree.proofs.Kids.{picked, pick_covers}

-- a node in use lies inside the memory
pub inside : (m : List ℕ) → form_agrees m ≡ true → counts_agree m ≡ true → (k : ℕ) → within 1 k (used_of m) ≡ true → Inside m k
inside m f c k t =
    let w : (1 ≤ k) × (k ≤ used_of m) = within_says 1 k (used_of m) t in
    let h : Form m = form m f in
    let n : Counts m = counts m c in
    let size : 72 + 16 * capacity_of m ≤ length m = omega (arith, h.total, h.room) in
    record {
      first = w.0;
      most = omega (arith, h.capacity.1, n.used.1);
      within = omega (arith, n.used.1);
    }

-- the way down to a key goes on from a node that covers it, with some levels left below it
pub record On (m : List ℕ) (key left : ℕ) (s : Step) : Type 0 where
  pub up : List ℕ
  pub nearest : s.parent ≡ parent up
  pub low : s.from ≤ key
  pub high : key ≤ s.top
  pub rest : way_to m key ≡ way left m key (kid s.node s.from (suc s.top)) up

-- the least entries that a node may have with so many levels below it
abbrev pub least_of : ℕ → ℕ
least_of zero = leaf_least
least_of (suc n) = inner_least

pub least_is : (n : ℕ) → bool_byte (ltb 0 n) ≡ least_of n
least_is zero = refl
least_is (suc n) = rw (lt-ltb 0 (suc n) (omega arith))

-- one level of the way
module _ (m : List ℕ) (key : ℕ) (c : Kid) (up : List ℕ) where
  out_of_use : (n : ℕ) → within 1 c.number (used_of m) ≡ false → way n m key c up ≡ failed (parent up)
  unfolding way
  out_of_use zero t = rw t
  out_of_use (suc n) t = rw t

  module _ (used : within 1 c.number (used_of m) ≡ true) where
    not_fitting : (n : ℕ) → good (least_of n) c.from c.upto (view m c.number) ≡ false → way n m key c up ≡ failed c.number
    unfolding way
    not_fitting zero t = rw (used, t)
    not_fitting (suc n) t = rw (used, t)

    fitting_leaf : good leaf_least c.from c.upto (view m c.number) ≡ true → way 0 m key c up ≡ leaf c.number up
    unfolding way
    fitting_leaf t = rw (used, t)

    fitting_inner : (n : ℕ) → good inner_least c.from c.upto (view m c.number) ≡ true
        → way (suc n) m key c up ≡ way n m key (pick key c (view m c.number)) (c.number ∷ up)
    unfolding way
    fitting_inner n t = rw (used, t)

module _ (m : List ℕ) (key : ℕ) where
  pub bad_header : counts_agree m ≡ false → way_to m key ≡ failed 0
  unfolding way_to
  bad_header t = rw t

  -- the root has no ends
  pub at_root : key < no_end → counts_agree m ≡ true
      → On m key (levels_above m) (record { node = root_of m; parent = 0; from = 0; top = no_end - 1 })
  unfolding way_to
  at_root h t = record {
    up = [];
    nearest = refl;
    low = omega arith;
    high = omega arith;
    rest = rw t refl;
  }

  -- the way ends where a node is at fault
  pub ends_at : {left : ℕ} {s : Step} → On m key left s → {f : Fault} → Met m s (least_of left) key (Err f) → way_to m key ≡ failed f.node
  ends_at {left} {s} o {f} (inl p) =
      o.rest ∙ out_of_use m key (kid s.node s.from (suc s.top)) o.up left p.0 ∙ ap failed (sym (p.1 ∙ o.nearest))
  ends_at {left} {s} o {f} (inr p) =
      o.rest ∙ not_fitting m key (kid s.node s.from (suc s.top)) o.up p.0 left p.1 ∙ ap failed (sym p.2)

  module _ {left least : ℕ} {s : Step} (o : On m key left s) {n : Node} {seen : Look} (g : MetGood m s least key n seen) where
    abbrev here : Kid
    here = kid s.node s.from (suc s.top)

    fitting : good least s.from (suc s.top) (view m s.node) ≡ true
    fitting = kept g.seen_is s.top (omega (arith, o.low, o.high)) ∙ le-leb seen.last s.top g.last_in

    pub good_node : Good least s.from (suc s.top) (view m s.node)
    good_node = good_parts fitting

  pub leaf_is : {s : Step} → On m key 0 s → {n : Node} {seen : Look} → MetGood m s leaf_least key n seen
      → {r : Result ℕ ℕ} → Placed key (view m s.node) r
      → Seated m key (record { leaf = n.number; slot = n.slot; place = r })
  leaf_is {s} o {n} g r =
      let e : way_to m key ≡ leaf s.node o.up = o.rest ∙ fitting_leaf m key (kid s.node s.from (suc s.top)) o.up g.in_use (fitting o g) in
      record {
        way_is = rw (g.number_is, e);
        slot_is = n.slot_is ∙ rw (g.pool_is, g.number_is);
        place_is = rw g.number_is r;
      }

  -- the child that covers the key
  module _ {left : ℕ} {s : Step} (o : On m key (suc left) s) {n : Node} {seen : Look} (g : MetGood m s inner_least key n seen) where
    pub some_covered : 1 ≤ (kid_after m (kid s.node 0 (suc s.top)) seen.after).upto
    some_covered =
        let u = view m s.node in
        let c = pick_covers key u.link 0 (suc s.top) u.records (omega arith) (omega (arith, o.high)) in
        rw (picked m s.node g.seen_is 0 (suc s.top)) (omega (arith, c.1))

    pub go_down : {r : Step} → Child m (kid s.node s.from (suc s.top)) seen.after r → On m key left r
    go_down {r} h =
        let u = view m s.node in
        let c = kid s.node s.from (suc s.top) in
        let is : pick key c u ≡ kid r.node r.from (suc r.top) =
        sym (picked m s.node g.seen_is s.from (suc s.top)) ∙ rw (h.node_is, h.from_is, h.top_is) refl in
        let covers = rw is at (pick_covers key u.link s.from (suc s.top) u.records o.low (omega (arith, o.high))) in
        record {
          up = s.node ∷ o.up;
          nearest = h.parent_is;
          low = covers.0;
          high = omega (arith, covers.1);
          rest = o.rest ∙ fitting_inner m key c o.up g.in_use left (fitting o g)
              ∙ ap (λ (d : Kid). way left m key d (s.node ∷ o.up)) is;
        }
