-- Where the views of its nodes are the same, the tree is; and links of a list of leaves in two parts.
use Prim.Native.Nat.{ℕ, zero, suc, ◌≤◌}
use mathlib.Core.Path.{◌≡◌, refl, sym, ◌∙◌, ap, ap₂}
use mathlib.Core.List.{List, [], ◌∷◌, ◌++◌}
use mathlib.Core.Bool.{true}
use native.Mathlib.Omega.{arith}
use native.Mathlib.Decide.{dec_le}
use Rattle.node.specs.View.{no_end}
use Rattle.tree.specs.Kids.{Kid, kid, fits, inner_least, below_root_least}
use Rattle.tree.specs.Lists.{gather, Each, one, occ}
use Rattle.tree.specs.WellFormed.{Views, kids_of, AllFit, nums, leaves, next, Linked, Whole}
use Rattle.tree.specs.Map.{records_in}
use Rattle.tree.proofs.Lists.{one_self, one_says, occ_append}
use Rattle.tree.proofs.Fits.{Named, fits_says}

-- the views of these nodes are the same
abbrev pub On : Views → Views → List ℕ → Type 0
On U U' ks = (k : ℕ) → 1 ≤ occ k ks → U' k ≡ U k

-- the tree below c is the same in both, and so are those below each of a list
pub record Same (U U' : Views) (h : ℕ) (c : Kid) : Type 0 where
  pub fit : (least : ℕ) → AllFit U least h c → AllFit U' least h c
  pub nums_are : nums U' h c ≡ nums U h c
  pub leaves_are : leaves U' h c ≡ leaves U h c

pub record SameAll (U U' : Views) (h : ℕ) (cs : List Kid) : Type 0 where
  pub fit : Each (AllFit U below_root_least h) cs → Each (AllFit U' below_root_least h) cs
  pub nums_are : gather (nums U' h) cs ≡ gather (nums U h) cs
  pub leaves_are : gather (leaves U' h) cs ≡ gather (leaves U h) cs

module _ (U U' : Views) where
  all_of : (h : ℕ) → ((c : Kid) → On U U' (nums U h c) → Same U U' h c)
      → (cs : List Kid) → On U U' (gather (nums U h) cs) → SameAll U U' h cs
  all_of h f [] o = record { fit = λ w. tt; nums_are = refl; leaves_are = refl }
  all_of h f (c ∷ cs) o =
      let a : Same U U' h c = f c (λ k l. o k (omega (arith, occ_append k (nums U h c) (gather (nums U h) cs)))) in
      let b : SameAll U U' h cs = all_of h f cs (λ k l. o k (omega (arith, occ_append k (nums U h c) (gather (nums U h) cs)))) in
      record {
        fit = λ w. (a.fit below_root_least w.0, b.fit w.1);
        nums_are = ap₂ ◌++◌ a.nums_are b.nums_are;
        leaves_are = ap₂ ◌++◌ a.leaves_are b.leaves_are;
      }

  pub same : (h : ℕ) (c : Kid) → On U U' (nums U h c) → Same U U' h c
  same zero c o =
      let e : U' c.number ≡ U c.number = o c.number (omega (arith, one_self c.number)) in
      record { fit = λ least w. rw e w; nums_are = refl; leaves_are = refl }
  same (suc h) c o =
      let e : U' c.number ≡ U c.number = o c.number (omega (arith, one_self c.number)) in
      let b : SameAll U U' h (kids_of U c) = all_of h (same h) (kids_of U c) (λ k l. o k (omega arith)) in
      record {
        fit = λ least w. rw e (w.0, b.fit w.1);
        nums_are = rw e (ap (λ (ks : List ℕ). c.number ∷ ks) b.nums_are);
        leaves_are = rw e b.leaves_are;
      }

  pub same_all : (h : ℕ) (cs : List Kid) → On U U' (gather (nums U h) cs) → SameAll U U' h cs
  same_all h = all_of h (same h)

  pub records_same : (ks : List ℕ) → On U U' ks → records_in U' ks ≡ records_in U ks
  records_same [] o = refl
  records_same (k ∷ ks) o =
      let e : U' k ≡ U k = o k (omega (arith, one_self k)) in
      rw (e, records_same ks (λ j l. o j (omega arith)))

  pub linked_same : (ks : List ℕ) (z : ℕ) → On U U' ks → Linked U ks z → Linked U' ks z
  linked_same [] z o w = tt
  linked_same (k ∷ ks) z o w =
      let e : U' k ≡ U k = o k (omega (arith, one_self k)) in
      (rw e w.0, linked_same ks z (λ j l. o j (omega arith)) w.1)

module _ (U : Views) where
  -- a leaf is one of the nodes
  all_leaves_in : (j h : ℕ) → ((c : Kid) → occ j (leaves U h c) ≤ occ j (nums U h c))
      → (cs : List Kid) → occ j (gather (leaves U h) cs) ≤ occ j (gather (nums U h) cs)
  all_leaves_in j h f [] = omega arith
  all_leaves_in j h f (c ∷ cs) =
      omega (
        arith,
        f c,
        all_leaves_in j h f cs,
        occ_append j (leaves U h c) (gather (leaves U h) cs),
        occ_append j (nums U h c) (gather (nums U h) cs),
      )

  pub leaves_in : (j h : ℕ) (c : Kid) → occ j (leaves U h c) ≤ occ j (nums U h c)
  leaves_in j zero c = omega arith
  leaves_in j (suc h) c = omega (arith, all_leaves_in j h (leaves_in j h) (kids_of U c))

  pub leaves_in_all : (j h : ℕ) (cs : List Kid) → occ j (gather (leaves U h) cs) ≤ occ j (gather (nums U h) cs)
  leaves_in_all j h = all_leaves_in j h (leaves_in j h)

  -- the node itself is one of them
  pub head_in : (h : ℕ) (c : Kid) → 1 ≤ occ c.number (nums U h c)
  head_in zero c = omega (arith, one_self c.number)
  head_in (suc h) c = omega (arith, one_self c.number)

  -- every node of a tree that fits has good names
  all_named : (j h : ℕ) → ((c : Kid) → AllFit U below_root_least h c → 1 ≤ occ j (nums U h c) → Named (U j))
      → (cs : List Kid) → Each (AllFit U below_root_least h) cs → 1 ≤ occ j (gather (nums U h) cs) → Named (U j)
  all_named j h f [] w o = absurd (omega arith)
  all_named j h f (c ∷ cs) w o = go (all_named j h f cs w.1) (dec_le 1 (occ j (nums U h c)))
    where
      go : (1 ≤ occ j (gather (nums U h) cs) → Named (U j)) → Dec (1 ≤ occ j (nums U h c)) → Named (U j)
      go g (yes p) = f c w.0 p
      go g (no p) = g (omega (arith, occ_append j (nums U h c) (gather (nums U h) cs)))

  named_here : (j least : ℕ) (c : Kid) → fits least c (U c.number) ≡ true → 1 ≤ one j c.number → Named (U j)
  named_here j least c w p =
      let e : j ≡ c.number = one_says j c.number p in
      rw e (fits_says least c.from c.upto (U c.number) w).names

  pub fit_named : (j least h : ℕ) (c : Kid) → AllFit U least h c → 1 ≤ occ j (nums U h c) → Named (U j)
  fit_named j least zero c w o = named_here j 0 c w (omega arith)
  fit_named j least (suc h) c w o =
      go (all_named j h (fit_named j below_root_least h) (kids_of U c) w.1) (dec_le 1 (one j c.number))
    where
      go : (1 ≤ occ j (gather (nums U h) (kids_of U c)) → Named (U j)) → Dec (1 ≤ one j c.number) → Named (U j)
      go g (yes p) = named_here j least c w.0 p
      go g (no p) = g (omega arith)

  -- links of a list in two parts
  next_append : (a b : List ℕ) (z : ℕ) → next (a ++ b) z ≡ next a (next b z)
  next_append [] b z = refl
  next_append (x ∷ a) b z = refl

  pub linked_left : (a b : List ℕ) (z : ℕ) → Linked U (a ++ b) z → Linked U a (next b z)
  linked_left [] b z w = tt
  linked_left (x ∷ a) b z w = (w.0 ∙ next_append a b z, linked_left a b z w.1)

  pub linked_right : (a b : List ℕ) (z : ℕ) → Linked U (a ++ b) z → Linked U b z
  linked_right [] b z w = w
  linked_right (x ∷ a) b z w = linked_right a b z w.1

  pub linked_append : (a b : List ℕ) (z : ℕ) → Linked U a (next b z) → Linked U b z → Linked U (a ++ b) z
  linked_append [] b z w x = x
  linked_append (y ∷ a) b z w x = (w.0 ∙ sym (next_append a b z), linked_append a b z w.1 x)

-- a whole tree rests on the views of the nodes 1 to used
module _ {U : Views} {used h root : ℕ} (w : Whole U used h root) where
  pub whole_named : (k : ℕ) → 1 ≤ k → k ≤ used → Named (U k)
  whole_named k p q = fit_named U k inner_least h (kid root 0 no_end) w.fit (omega (arith, w.once k p q))

  module _ {U' : Views} (o : (k : ℕ) → 1 ≤ k → k ≤ used → U' k ≡ U k) where
    on_all : On U U' (nums U h (kid root 0 no_end))
    on_all k l = let i = w.only k l in o k i.0 i.1

    on_leaves : On U U' (leaves U h (kid root 0 no_end))
    on_leaves k l = on_all k (omega (arith, leaves_in U k h (kid root 0 no_end)))

    alike : Same U U' h (kid root 0 no_end)
    alike = same U U' h (kid root 0 no_end) on_all

    pub whole_same : Whole U' used h root
    whole_same = record {
      fit = alike.fit inner_least w.fit;
      linked = rw alike.leaves_are (linked_same U U' (leaves U h (kid root 0 no_end)) 0 on_leaves w.linked);
      once = λ k p q. rw alike.nums_are (w.once k p q);
      only = λ k l. w.only k (rw alike.nums_are at l);
    }

    pub whole_records : records_in U' (leaves U' h (kid root 0 no_end)) ≡ records_in U (leaves U h (kid root 0 no_end))
    whole_records = rw alike.leaves_are (records_same U U' (leaves U h (kid root 0 no_end)) on_leaves)
