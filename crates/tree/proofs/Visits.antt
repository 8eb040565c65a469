-- No node is looked at twice, however damaged the pool is: each number met is marked, or the walk stops there.
use Prim.Native.Nat.{ℕ, zero, suc, ◌+◌, ◌-◌, ◌≤◌}
use mathlib.Core.Path.{◌≡◌, refl}
use mathlib.Core.List.{List, [], ◌∷◌, ◌++◌, append-nil, append_assoc}
use mathlib.Core.Bool.{Bool, true, false, not}
use native.Mathlib.Omega.{arith}
use native.Mathlib.Decide.{dec_le}
use lib.Dec.{eqb}
use lib.ListN.{length, length-append}
use Rattle.std.specs.Prelude.{if◌then◌else◌}
use Rattle.words.specs.Event.{at}
use Rattle.words.specs.Lists.{count_from}
use Rattle.words.proofs.Lists.{length_from}
use Rattle.node.specs.View.{view, link_at}
use Rattle.tree.specs.Header.{used_of, counts_agree}
use Rattle.tree.specs.Kids.{Kid, kids, root_kid, fits, leaf_least, inner_least, below_root_least}
use Rattle.tree.specs.Lists.{occ}
use Rattle.tree.specs.Path.{levels_above}
use Rattle.tree.specs.Check.{Seen, Walk, fault, going, onward, each_child, marked, may_mark, node_seen, leaf_seen, links_to}
use Rattle.tree.specs.Check.{node_walk, ended, start, walk, marks_after}
use Rattle.tree.specs.Visits.{onward_visits, each_visits, node_visits, visits, VisitedOnce}
use Rattle.tree.proofs.Form.{counts}
use Rattle.tree.proofs.Lists.{occ_append}
use Rattle.tree.proofs.Occurs.{from_in, total, total_all, total_most}
use Rattle.tree.proofs.Marks.{Marked, marked_same, marked_none}
use Rattle.tree.proofs.Walked.{Fresh, fresh_append, went_node}

module _ (m : List ℕ) where
  -- the numbers met are fresh and have been marked; where the walk has stopped, there is at most one more
  data Meets (cnt : ℕ → ℕ) : List ℕ → Walk → Type 0 where
    goes : {s : Seen} (ns : List ℕ) → Fresh m cnt ns → Marked m s.marks (λ j. cnt j + occ j ns) → Meets cnt ns (going s)
    stops : {k : ℕ} {marks : List ℕ} (ns more : List ℕ) → Fresh m cnt ns → length more ≤ 1
        → Marked m marks (λ j. cnt j + occ j ns) → Meets cnt (ns ++ more) (fault k marks)

  fresh_none : (cnt : ℕ → ℕ) → Fresh m cnt []
  fresh_none cnt j o = absurd (omega arith)

  marked_still : {marks : List ℕ} (cnt : ℕ → ℕ) → Marked m marks cnt → Marked m marks (λ j. cnt j + 0)
  marked_still cnt = marked_same m cnt (λ j. cnt j + 0) (λ j. omega arith)

  -- what is met first, and then the rest
  after : {w : Walk} {l : List ℕ} (cnt : ℕ → ℕ) (a : List ℕ) → Fresh m cnt a → Meets (λ j. cnt j + occ j a) l w → Meets cnt (a ++ l) w
  after cnt a f (goes {s = s} ns g h) =
      goes {s = s} (a ++ ns) (fresh_append m cnt a ns f g)
      (marked_same m (λ j. cnt j + occ j a + occ j ns) (λ j. cnt j + occ j (a ++ ns)) (λ j. omega (arith, occ_append j a ns)) h)
  after cnt a f (stops {k = k} {marks = marks} ns more g b h) =
      let r : Meets cnt ((a ++ ns) ++ more) (fault k marks) =
      stops (a ++ ns) more (fresh_append m cnt a ns f g) b
      (marked_same m (λ j. cnt j + occ j a + occ j ns) (λ j. cnt j + occ j (a ++ ns)) (λ j. omega (arith, occ_append j a ns)) h) in
      rw append_assoc at r

  module _ (least parent : ℕ) (c : Kid) (s : Seen) (cnt : ℕ → ℕ) (a : Marked m s.marks cnt) where
    abbrev k : ℕ
    k = c.number

    -- it may not be marked
    refused : Meets cnt (k ∷ []) (fault parent s.marks)
    refused = stops [] (k ∷ []) (fresh_none cnt) (omega arith) (marked_still cnt a)

    -- it is marked, and the walk stops all the same
    marked_stops : {n : ℕ} → may_mark m k s.marks ≡ true → Meets cnt (k ∷ []) (fault n (marked k s.marks))
    marked_stops t =
        let w = went_node m least parent c s cnt a t in
        stops (k ∷ []) [] w.fresh (omega arith) w.marks_are

    meets_leaf : Meets cnt (node_visits 0 m least c s) (node_walk 0 m least parent c s)
    unfolding node_walk node_visits
    meets_leaf = go (may_mark m k s.marks) (fits leaf_least c (view m k)) (links_to m s.last k) refl
      where
        go : (x y z : Bool) → may_mark m k s.marks ≡ x
            → Meets cnt (k ∷ [])
            (if not x then fault parent s.marks
            else if not y then fault k (marked k s.marks)
            else if not z then fault s.last (marked k s.marks)
            else going (leaf_seen k (view m k) s))
        go false y z t = refused
        go true false z t = marked_stops t
        go true true false t = marked_stops t
        go true true true t =
            let w = went_node m least parent c s cnt a t in
            goes {s = leaf_seen k (view m k) s} (k ∷ []) w.fresh w.marks_are

    module _ (h : ℕ) where
      abbrev node : Kid → Seen → Walk
      node = node_walk h m below_root_least k

      abbrev below : List ℕ
      below = each_visits node (node_visits h m below_root_least) (kids c (view m k)) (node_seen k s)

      abbrev walked : Walk
      walked = each_child node (kids c (view m k)) (node_seen k s)

      meets_inner : ((cnt' : ℕ → ℕ) → Marked m (node_seen k s).marks cnt' → Meets cnt' below walked)
          → Meets cnt (node_visits (suc h) m least c s) (node_walk (suc h) m least parent c s)
      unfolding node_walk node_visits
      meets_inner f = go (may_mark m k s.marks) (fits least c (view m k)) refl
        where
          go : (x y : Bool) → may_mark m k s.marks ≡ x
              → Meets cnt (if not x then k ∷ [] else if not y then k ∷ [] else k ∷ below)
              (if not x then fault parent s.marks else if not y then fault k (marked k s.marks) else walked)
          go false y t = refused
          go true false t = marked_stops t
          go true true t =
              let w = went_node m least parent c s cnt a t in
              after cnt (k ∷ []) w.fresh (f (λ j. cnt j + occ j (k ∷ [])) w.marks_are)

  -- the children one after the other
  module _ (node : Kid → Seen → Walk) (meet : Kid → Seen → List ℕ) where
    meets_each : ((c : Kid) (s : Seen) (cnt : ℕ → ℕ) → Marked m s.marks cnt → Meets cnt (meet c s) (node c s))
        → (cs : List Kid) (s : Seen) (cnt : ℕ → ℕ) → Marked m s.marks cnt
        → Meets cnt (each_visits node meet cs s) (each_child node cs s)
    unfolding each_child each_visits
    meets_each f [] s cnt a = goes {s = s} [] (fresh_none cnt) (marked_still cnt a)
    meets_each f (c ∷ cs) s cnt a = go (f c s cnt a) (meets_each f cs)
      where
        go : {l : List ℕ} {w : Walk} → Meets cnt l w
            → ((s : Seen) (cnt : ℕ → ℕ) → Marked m s.marks cnt → Meets cnt (each_visits node meet cs s) (each_child node cs s))
            → Meets cnt (l ++ onward_visits (each_visits node meet cs) w) (onward (each_child node cs) w)
        go (goes {s = s₁} ns g h) rest = after cnt ns g (rest s₁ (λ j. cnt j + occ j ns) h)
        go (stops ns more g b h) rest = rw append-nil (stops ns more g b h)

  meets : (h least parent : ℕ) (c : Kid) (s : Seen) (cnt : ℕ → ℕ) → Marked m s.marks cnt
      → Meets cnt (node_visits h m least c s) (node_walk h m least parent c s)
  meets zero least parent c s cnt a = meets_leaf least parent c s cnt a
  meets (suc h) least parent c s cnt a =
      meets_inner least parent c s cnt a h
      (meets_each (node_walk h m below_root_least c.number) (node_visits h m below_root_least)
      (meets h below_root_least c.number) (kids c (view m c.number)) (node_seen c.number s))

  -- the two tests at the end leave the marks as they are
  ended_marks : (w : Walk) → marks_after (onward (ended m) w) ≡ marks_after w
  ended_marks (fault k marks) = refl
  ended_marks (going s) = go (eqb (at m (link_at s.last)) 0) (eqb s.nodes (used_of m))
    where
      go : (x y : Bool)
          → marks_after (if not x then fault s.last s.marks else if not y then fault 0 s.marks else going s) ≡ s.marks
      go false y = refl
      go true false = refl
      go true true = refl

  module _ (marks : List ℕ) where
    -- fresh numbers are in use, none comes twice, and so there are at most as many as are used
    fresh_most : (ns : List ℕ) → Fresh m (λ j. 0) ns → ((j : ℕ) → occ j ns ≤ 1) × (length ns ≤ used_of m)
    fresh_most ns f =
        let run : List ℕ = count_from 1 (used_of m) in
        let t : total run ns ≡ length ns =
        total_all run ns (λ x o. let i = f x o in from_in x 1 (used_of m) i.0 (omega (arith, i.1))) in
        (at_most, omega (arith, total_most run ns at_most, length_from 1 (used_of m)))
      where
        at_most : (j : ℕ) → occ j ns ≤ 1
        at_most j = go (dec_le 1 (occ j ns))
          where
            go : Dec (1 ≤ occ j ns) → occ j ns ≤ 1
            go (yes o) = omega (arith, f j o)
            go (no o) = omega arith

    tells : {ms : List ℕ} (ns : List ℕ) → Fresh m (λ j. 0) ns → Marked m ms (λ j. 0 + occ j ns)
        → (j : ℕ) → 1 ≤ j → j ≤ used_of m → at ms (j - 1) ≡ occ j ns
    tells {ms = ms} ns f h j p q = go (dec_le 1 (occ j ns))
      where
        go : Dec (1 ≤ occ j ns) → at ms (j - 1) ≡ occ j ns
        go (yes o) = omega (arith, h.set_at j p q (omega arith), (fresh_most ns f).0 j)
        go (no o) = omega (arith, h.clear j p q (omega arith))

    close : {l : List ℕ} {w : Walk} → visits m marks ≡ l → marks_after (walk m marks) ≡ marks_after w → Meets (λ j. 0) l w
        → VisitedOnce m marks
    close e e' (goes {s = s} ns f h) = record {
      seen = ns;
      more = [];
      visits_are = rw append-nil e;
      more_most = omega arith;
      in_use = λ j o. let i = f j o in (i.0, i.1);
      once = (fresh_most ns f).0;
      marks_tell = rw e' (tells ns f h);
      visits_most = rw e (omega (arith, (fresh_most ns f).1));
    }
    close e e' (stops ns more f b h) = record {
      seen = ns;
      more = more;
      visits_are = e;
      more_most = b;
      in_use = λ j o. let i = f j o in (i.0, i.1);
      once = (fresh_most ns f).0;
      marks_tell = rw e' (tells ns f h);
      visits_most = rw (e, length-append) (omega (arith, (fresh_most ns f).1));
    }

    pub visited_once : counts_agree m ≡ true → VisitedOnce m marks
    unfolding walk visits
    visited_once agree =
        close refl (ended_marks (node_walk (levels_above m) m inner_least 0 (root_kid m) (start m marks)))
        (meets (levels_above m) inner_least 0 (root_kid m) (start m marks) (λ j. 0) (marked_none m marks (counts m agree).used.1))
