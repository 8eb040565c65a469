-- The walk of a subtree: it goes on and has counted it exactly if the subtree is right, and stops at a fault if it is not.
use Prim.Native.Nat.{ℕ, zero, suc, ◌+◌, ◌≤◌}
use mathlib.Core.Path.{◌≡◌, refl, sym, ◌∙◌}
use mathlib.Core.List.{List, [], ◌∷◌, ◌++◌, append-nil}
use mathlib.Core.Bool.{Bool, true, false, not}
use native.Mathlib.Omega.{arith}
use native.Mathlib.Decide.{dec_le}
use lib.ListN.{length, length-append}
use Rattle.std.specs.Prelude.{if◌then◌else◌}
use Rattle.node.specs.View.{view}
use Rattle.tree.specs.Header.{used_of}
use Rattle.tree.specs.Kids.{Kid, fits, leaf_least, below_root_least}
use Rattle.tree.specs.Lists.{gather, Each, one, occ}
use Rattle.tree.specs.WellFormed.{Views, kids_of, AllFit, nums, leaves}
use Rattle.tree.specs.Map.{records_in}
use Rattle.tree.specs.Check.{Seen, Walk, fault, going, onward, each_child, marked, may_mark, node_seen, leaf_seen, links_to}
use Rattle.tree.specs.Check.{node_walk}
use Rattle.tree.proofs.Lists.{gather_append, one_self, one_says, occ_append}
use Rattle.tree.proofs.Marks.{end, end_append, Marked, marked_same, marked_more, may_says, may_of, Chain, chain_append}
use Rattle.tree.proofs.Marks.{chain_left, chain_right}

module _ (m : List ℕ) where
  -- the numbers to come are in range, and none is counted or comes twice
  abbrev pub Fresh : (ℕ → ℕ) → List ℕ → Type 0
  Fresh cnt ns = (j : ℕ) → 1 ≤ occ j ns → (1 ≤ j) × (j ≤ used_of m) × (cnt j + occ j ns ≤ 1)

  -- one after the other
  fresh_left : (cnt : ℕ → ℕ) (a b : List ℕ) → Fresh cnt (a ++ b) → Fresh cnt a
  fresh_left cnt a b f j o =
      let r = f j (omega (arith, occ_append j a b)) in (r.0, r.1, omega (arith, r.2, occ_append j a b))

  fresh_right : (cnt : ℕ → ℕ) (a b : List ℕ) → Fresh cnt (a ++ b) → Fresh (λ j. cnt j + occ j a) b
  fresh_right cnt a b f j o =
      let r = f j (omega (arith, occ_append j a b)) in (r.0, r.1, omega (arith, r.2, occ_append j a b))

  pub fresh_append : (cnt : ℕ → ℕ) (a b : List ℕ) → Fresh cnt a → Fresh (λ j. cnt j + occ j a) b → Fresh cnt (a ++ b)
  fresh_append cnt a b f g j o = go (dec_le 1 (occ j b))
    where
      go : Dec (1 ≤ occ j b) → (1 ≤ j) × (j ≤ used_of m) × (cnt j + occ j (a ++ b) ≤ 1)
      go (yes p) = let r = g j p in (r.0, r.1, omega (arith, r.2, occ_append j a b))
      go (no p) =
          let r = f j (omega (arith, occ_append j a b)) in (r.0, r.1, omega (arith, r.2, occ_append j a b))

  fresh_one : (cnt : ℕ → ℕ) (k : ℕ) → 1 ≤ k → k ≤ used_of m → cnt k ≡ 0 → Fresh cnt (k ∷ [])
  fresh_one cnt k p q z j o =
      let e : j ≡ k = one_says j k (omega arith) in
      rw e (p, q, omega (arith, one_self k))

  -- the walk went on over the numbers ns with the leaves ls
  pub record Went (s s' : Seen) (cnt : ℕ → ℕ) (ns ls : List ℕ) : Type 0 where
    pub marks_are : Marked m s'.marks (λ j. cnt j + occ j ns)
    pub fresh : Fresh cnt ns
    pub chain : Chain m s.last ls
    pub last_is : s'.last ≡ end s.last ls
    pub nodes_are : s'.nodes ≡ s.nodes + length ns
    pub records_are : s'.records ≡ s.records + length (records_in (view m) ls)

  -- it goes on, and all is right; or it has stopped, and something is not
  pub data Verdict (P : Type 0) (s : Seen) (cnt : ℕ → ℕ) (ns ls : List ℕ) : Walk → Type 0 where
    right : {s' : Seen} → P → Went s s' cnt ns ls → Verdict P s cnt ns ls (going s')
    wrong : {k : ℕ} {ms : List ℕ} → (P → Fresh cnt ns → Chain m s.last ls → ⊥) → Verdict P s cnt ns ls (fault k ms)

  abbrev U : Views
  U = view m

  -- the verdict on the tree below c, and on those below each of a list
  abbrev pub Tree : ℕ → ℕ → Kid → Seen → (ℕ → ℕ) → Walk → Type 0
  Tree least h c s cnt w = Verdict (AllFit U least h c) s cnt (nums U h c) (leaves U h c) w

  abbrev Trees : ℕ → List Kid → Seen → (ℕ → ℕ) → Walk → Type 0
  Trees h cs s cnt w =
      Verdict (Each (AllFit U below_root_least h) cs) s cnt (gather (nums U h) cs) (gather (leaves U h) cs) w

  clash : {b : Bool} → b ≡ false → b ≡ true → ⊥
  clash e f = let z : ◌≡◌ {A = ℕ} 0 1 = cc in omega arith

  -- a walk that went on, and what comes after it
  went_append : {s s₁ s₂ : Seen} (cnt : ℕ → ℕ) (a b ks ls : List ℕ) → Went s s₁ cnt a ks → Went s₁ s₂ (λ j. cnt j + occ j a) b ls
      → Went s s₂ cnt (a ++ b) (ks ++ ls)
  went_append {s} cnt a b ks ls x y = record {
    marks_are = marked_same m (λ j. cnt j + occ j a + occ j b) (λ j. cnt j + occ j (a ++ b)) (λ j. omega (arith, occ_append j a b))
        y.marks_are;
    fresh = fresh_append cnt a b x.fresh y.fresh;
    chain = chain_append m s.last ks ls x.chain (rw x.last_is at y.chain);
    last_is = y.last_is ∙ rw x.last_is (sym (end_append s.last ks ls));
    nodes_are = rw length-append (omega (arith, x.nodes_are, y.nodes_are));
    records_are = rw (gather_append, length-append) (omega (arith, x.records_are, y.records_are));
  }

  after : {P Q : Type 0} {s s₁ : Seen} {w : Walk} (cnt : ℕ → ℕ) (a b ks ls : List ℕ) → P → Went s s₁ cnt a ks
      → Verdict Q s₁ (λ j. cnt j + occ j a) b ls w → Verdict (P × Q) s cnt (a ++ b) (ks ++ ls) w
  after cnt a b ks ls p x (right q y) = right (p, q) (went_append cnt a b ks ls x y)
  after {s = s} cnt a b ks ls p x (wrong n) =
      wrong (λ w g l. n w.1 (fresh_right cnt a b g) (rw x.last_is (chain_right m s.last ks ls l)))

  module _ (least parent : ℕ) (c : Kid) (s : Seen) (cnt : ℕ → ℕ) (a : Marked m s.marks cnt) where
    abbrev k : ℕ
    k = c.number

    fresh_head : (ns : List ℕ) → Fresh cnt (k ∷ ns) → may_mark m k s.marks ≡ true
    fresh_head ns f =
        let r = f k (omega (arith, one_self k)) in
        may_of m k a r.0 r.1 (omega (arith, r.2, one_self k))

    -- the node itself, an inner one
    pub went_node : may_mark m k s.marks ≡ true → Went s (node_seen k s) cnt (k ∷ []) []
    went_node t =
        let r = may_says m k a t in
        let marks = marked_more m k r.0 r.1 a in
        record {
          marks_are = marked_same m (λ j. cnt j + one j k) (λ j. cnt j + (one j k + 0)) (λ j. omega arith) marks;
          fresh = fresh_one cnt k r.0 r.1 r.2;
          chain = tt;
          last_is = refl;
          nodes_are = refl;
          records_are = omega arith;
        }

    -- or a leaf
    went_leaf : may_mark m k s.marks ≡ true → links_to m s.last k ≡ true → Went s (leaf_seen k (U k) s) cnt (k ∷ []) (k ∷ [])
    went_leaf t t' =
        let n = went_node t in
        record {
          marks_are = n.marks_are;
          fresh = n.fresh;
          chain = (t', tt);
          last_is = refl;
          nodes_are = refl;
          records_are = rw append-nil;
        }

    verdict_leaf : Tree least 0 c s cnt (node_walk 0 m least parent c s)
    unfolding node_walk
    verdict_leaf = go (may_mark m k s.marks) (fits leaf_least c (U k)) (links_to m s.last k) refl refl refl
      where
        go : (x y z : Bool) → may_mark m k s.marks ≡ x → fits leaf_least c (U k) ≡ y → links_to m s.last k ≡ z
            → Tree least 0 c s cnt
            (if not x then fault parent s.marks
            else if not y then fault k (marked k s.marks)
            else if not z then fault s.last (marked k s.marks)
            else going (leaf_seen k (U k) s))
        go false y z t t' t'' = wrong (λ w f l. clash t (fresh_head [] f))
        go true false z t t' t'' = wrong (λ w f l. clash t' w)
        go true true false t t' t'' = wrong (λ w f l. clash t'' l.0)
        go true true true t t' t'' = right t' (went_leaf t t'')

    -- an inner node, by the walk of its children
    module _ (h : ℕ) where
      abbrev cs : List Kid
      cs = kids_of U c

      abbrev below : Walk
      below = each_child (node_walk h m below_root_least k) (kids_of U c) (node_seen k s)

      verdict_inner : ((cnt' : ℕ → ℕ) → Marked m (node_seen k s).marks cnt' → Trees h cs (node_seen k s) cnt' below)
          → Tree least (suc h) c s cnt (node_walk (suc h) m least parent c s)
      unfolding node_walk
      verdict_inner f = go (may_mark m k s.marks) (fits least c (U k)) refl refl
        where
          go : (x y : Bool) → may_mark m k s.marks ≡ x → fits least c (U k) ≡ y
              → Tree least (suc h) c s cnt
              (if not x then fault parent s.marks else if not y then fault k (marked k s.marks) else below)
          go false y t t' = wrong (λ w g l. clash t (fresh_head (gather (nums U h) cs) g))
          go true false t t' = wrong (λ w g l. clash t' w.0)
          go true true t t' =
              after cnt (k ∷ []) (gather (nums U h) cs) [] (gather (leaves U h) cs) t' (went_node t)
              (f (λ j. cnt j + occ j (k ∷ [])) (went_node t).marks_are)

  -- the children one after the other, by the walk of each
  module _ (h parent : ℕ) where
    abbrev node : Kid → Seen → Walk
    node = node_walk h m below_root_least parent

    verdict_each : ((c : Kid) (s : Seen) (cnt : ℕ → ℕ) → Marked m s.marks cnt → Tree below_root_least h c s cnt (node c s))
        → (cs : List Kid) (s : Seen) (cnt : ℕ → ℕ) → Marked m s.marks cnt → Trees h cs s cnt (each_child node cs s)
    unfolding each_child
    verdict_each f [] s cnt a = right {s' = s} tt (record {
      marks_are = marked_same m cnt (λ j. cnt j + 0) (λ j. omega arith) a;
      fresh = λ j o. absurd (omega arith);
      chain = tt;
      last_is = refl;
      nodes_are = omega arith;
      records_are = omega arith;
    })
    verdict_each f (c ∷ cs) s cnt a = go (f c s cnt a) (verdict_each f cs)
      where
        go : {w : Walk} → Tree below_root_least h c s cnt w
            → ((s : Seen) (cnt : ℕ → ℕ) → Marked m s.marks cnt → Trees h cs s cnt (each_child node cs s))
            → Trees h (c ∷ cs) s cnt (onward (each_child node cs) w)
        go (right {s' = s₁} p x) rest =
            after cnt (nums U h c) (gather (nums U h) cs) (leaves U h c) (gather (leaves U h) cs) p x
            (rest s₁ (λ j. cnt j + occ j (nums U h c)) x.marks_are)
        go (wrong n) rest =
            wrong (λ w g l. n w.0 (fresh_left cnt (nums U h c) (gather (nums U h) cs) g)
            (chain_left m s.last (leaves U h c) (gather (leaves U h) cs) l))

  pub verdict : (h least parent : ℕ) (c : Kid) (s : Seen) (cnt : ℕ → ℕ) → Marked m s.marks cnt
      → Tree least h c s cnt (node_walk h m least parent c s)
  verdict zero least parent c s cnt a = verdict_leaf least parent c s cnt a
  verdict (suc h) least parent c s cnt a =
      verdict_inner least parent c s cnt a h
      (verdict_each h c.number (verdict h below_root_least c.number) (kids_of U c) (node_seen c.number s))
