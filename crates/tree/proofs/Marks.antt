-- What a walk has seen: marks that count numbers, and leaves that link each to the next.
use Prim.Native.Nat.{ℕ, zero, suc, ◌+◌, ◌-◌, ◌≤◌}
use mathlib.Core.Path.{◌≡◌, refl, sym, ◌∙◌}
use mathlib.Core.List.{List, [], ◌∷◌, ◌++◌}
use mathlib.Core.Bool.{Bool, true, false, ◌||◌}
use native.Mathlib.Omega.{arith}
use native.Mathlib.Decide.{dec_le}
use lib.Dec.{eqb}
use lib.ListN.{length, drop, replicate, length-set, length-append, length-replicate, get_or-replicate, get_or-append}
use lib.Seq.{get_or-set_same, get_or-set_other}
use borrow.Author.Tests.{eq-eqb, ne_eqb, eqb-true}
use Rattle.words.specs.Event.{at}
use Rattle.node.specs.View.{Record, view, link_at}
use Rattle.words.proofs.Tests.{both}
use Rattle.tree.specs.Header.{capacity_of, used_of}
use Rattle.tree.specs.Kids.{Kid, kid, kids_from}
use Rattle.tree.specs.Lists.{gather, Each, one}
use Rattle.tree.specs.WellFormed.{Views, leaves, Linked}
use Rattle.tree.specs.Check.{marked, may_mark, links_to, zeroed}
use Rattle.tree.proofs.Lists.{one_self, one_says}
use Rattle.words.proofs.Tests.{within_says, within_of}

-- the last of a list of leaves, or else p
abbrev pub end : ℕ → List ℕ → ℕ
end p [] = p
end p (k ∷ ks) = end k ks

pub end_append : (p : ℕ) (a b : List ℕ) → end p (a ++ b) ≡ end (end p a) b
end_append p [] b = refl
end_append p (k ∷ a) b = end_append k a b

module _ (m : List ℕ) where
  -- of the numbers 1 to used, those that are counted are marked, and no others
  pub record Marked (marks : List ℕ) (cnt : ℕ → ℕ) : Type 0 where
    pub size : used_of m ≤ length marks
    pub clear : (j : ℕ) → 1 ≤ j → j ≤ used_of m → cnt j ≡ 0 → at marks (j - 1) ≡ 0
    pub set_at : (j : ℕ) → 1 ≤ j → j ≤ used_of m → 1 ≤ cnt j → at marks (j - 1) ≡ 1

  pub marked_same : {marks : List ℕ} (f g : ℕ → ℕ) → ((j : ℕ) → f j ≡ g j) → Marked marks f → Marked marks g
  marked_same f g e a = record {
    size = a.size;
    clear = λ j p q o. a.clear j p q (omega (arith, e j));
    set_at = λ j p q o. a.set_at j p q (omega (arith, e j));
  }

  pub marked_more : {marks : List ℕ} {cnt : ℕ → ℕ} (k : ℕ) → 1 ≤ k → k ≤ used_of m → Marked marks cnt
      → Marked (marked k marks) (λ j. cnt j + one j k)
  marked_more {marks} {cnt} k p q a = record {
    size = rw length-set a.size;
    clear = λ j p' q' o. other j p' (λ e. let z : one j k ≡ 1 = rw e (one_self k) in omega arith) ∙ a.clear j p' q' (omega arith);
    set_at = λ j p' q' o. go j p' q' o (dec_le 1 (one j k));
  }
    where
      other : (j : ℕ) → 1 ≤ j → (j ≡ k → ⊥) → at (marked k marks) (j - 1) ≡ at marks (j - 1)
      other j p' d = get_or-set_other marks (k - 1) (j - 1) 1 0 (λ e. d (omega arith))

      go : (j : ℕ) → 1 ≤ j → j ≤ used_of m → 1 ≤ cnt j + one j k → Dec (1 ≤ one j k) → at (marked k marks) (j - 1) ≡ 1
      go j p' q' o (yes h) =
          let e : j ≡ k = one_says j k h in
          rw e (get_or-set_same marks (k - 1) 1 0 (omega (arith, a.size)))
      go j p' q' o (no h) =
          other j p' (λ e. let z : one j k ≡ 1 = rw e (one_self k) in h (omega arith)) ∙ a.set_at j p' q' (omega arith)

  pub marked_none : (marks : List ℕ) → used_of m ≤ capacity_of m → Marked (zeroed (capacity_of m) marks) (λ j. 0)
  marked_none marks h = record {
    size = rw (length-append, length-replicate) (omega arith);
    clear = λ j p q o.
        get_or-append (replicate (capacity_of m) 0) (drop (capacity_of m) marks) 0 (j - 1) (rw length-replicate (omega arith))
        ∙ get_or-replicate (capacity_of m) (j - 1) 0 0 (omega arith);
    set_at = λ j p q o. absurd (omega arith);
  }

  -- a number may be marked if it is in range and not counted
  module _ {marks : List ℕ} {cnt : ℕ → ℕ} (k : ℕ) (a : Marked marks cnt) where
    pub may_says : may_mark m k marks ≡ true → (1 ≤ k) × (k ≤ used_of m) × (cnt k ≡ 0)
    may_says h =
        let b : _ × (eqb (at marks (k - 1)) 0 ≡ true) = both h in
        let i = within_says 1 k (used_of m) b.0 in
        (i.0, i.1, go i (eqb-true (at marks (k - 1)) 0 b.1) (dec_le 1 (cnt k)))
      where
        go : (1 ≤ k) × (k ≤ used_of m) → at marks (k - 1) ≡ 0 → Dec (1 ≤ cnt k) → cnt k ≡ 0
        go i z (yes p) = absurd (omega (arith, a.set_at k i.0 i.1 p))
        go i z (no p) = omega arith

    pub may_of : 1 ≤ k → k ≤ used_of m → cnt k ≡ 0 → may_mark m k marks ≡ true
    may_of p q z = rw (within_of 1 k (used_of m) p q, eq-eqb (at marks (k - 1)) 0 (a.clear k p q z))

  -- from the leaf before (0 for none), each leaf links to the next
  abbrev pub Chain : ℕ → List ℕ → Type 0
  Chain p [] = Unit {0}
  Chain p (k ∷ ks) = (links_to m p k ≡ true) × Chain k ks

  pub chain_append : (p : ℕ) (a b : List ℕ) → Chain p a → Chain (end p a) b → Chain p (a ++ b)
  chain_append p [] b c d = d
  chain_append p (k ∷ a) b c d = (c.0, chain_append k a b c.1 d)

  pub chain_left : (p : ℕ) (a b : List ℕ) → Chain p (a ++ b) → Chain p a
  chain_left p [] b c = tt
  chain_left p (k ∷ a) b c = (c.0, chain_left k a b c.1)

  pub chain_right : (p : ℕ) (a b : List ℕ) → Chain p (a ++ b) → Chain (end p a) b
  chain_right p [] b c = c
  chain_right p (k ∷ a) b c = chain_right k a b c.1

  link_is : (k : ℕ) → (view m k).link ≡ at m (link_at k)
  unfolding view
  link_is k = refl

  -- a chain of leaves, the last with link 0, is linked, and the other way round
  links_on : (p k : ℕ) → 1 ≤ p → links_to m p k ≡ true → (view m p).link ≡ k
  links_on p k h l =
      let l' : eqb (at m (link_at p)) k ≡ true = rw (ne_eqb p 0 (omega arith)) at l in
      link_is p ∙ eqb-true (at m (link_at p)) k l'

  chain_linked : (p : ℕ) (ks : List ℕ) → 1 ≤ p → Each (λ (k : ℕ). 1 ≤ k) ks → Chain p ks → at m (link_at (end p ks)) ≡ 0
      → Linked (view m) (p ∷ ks) 0
  chain_linked p [] h e c z = (link_is p ∙ z, tt)
  chain_linked p (k ∷ ks) h e c z = (links_on p k h c.0, chain_linked k ks e.0 e.1 c.1 z)

  linked_chain : (p : ℕ) (ks : List ℕ) → Linked (view m) (p ∷ ks) 0 → Chain p ks × (at m (link_at (end p ks)) ≡ 0)
  linked_chain p [] l = (tt, sym (link_is p) ∙ l.0)
  linked_chain p (k ∷ ks) l =
      let r : Chain k ks × (at m (link_at (end k ks)) ≡ 0) = linked_chain k ks l.1 in
      ((or_true (eqb p 0) (eq-eqb (at m (link_at p)) k (sym (link_is p) ∙ l.0)), r.0), r.1)
    where
      or_true : {b : Bool} (a : Bool) → b ≡ true → (a || b) ≡ true
      or_true true h = refl
      or_true false h = h

-- the leaves of a tree, of which there is at least one
abbrev Filled : List ℕ → Type 0
Filled [] = ⊥
Filled (k ∷ ks) = Unit {0}

filled_append : (a b : List ℕ) → Filled a → Filled (a ++ b)
filled_append [] b h = elim h [ ]
filled_append (k ∷ a) b h = tt

leaves_filled : (U : Views) (h : ℕ) (c : Kid) → Filled (leaves U h c)
leaves_filled U zero c = tt
leaves_filled U (suc h) c = first (leaves_filled U h) (U c.number).link c.from c.upto (U c.number).records
  where
    first : ((c : Kid) → Filled (leaves U h c)) → (leftmost lo hi : ℕ) (rs : List Record)
        → Filled (gather (leaves U h) (kids_from leftmost lo hi rs))
    first g f lo hi [] = filled_append (leaves U h (kid f lo hi)) [] (g (kid f lo hi))
    first g f lo hi (r ∷ rs) =
        filled_append (leaves U h (kid f lo r.0)) (gather (leaves U h) (kids_from r.1 r.0 hi rs)) (g (kid f lo r.0))

module _ (m : List ℕ) (h : ℕ) (c : Kid) where
  pub leaves_linked : Each (λ (k : ℕ). 1 ≤ k) (leaves (view m) h c) → Chain m 0 (leaves (view m) h c)
      → at m (link_at (end 0 (leaves (view m) h c))) ≡ 0 → Linked (view m) (leaves (view m) h c) 0
  leaves_linked = go (leaves (view m) h c) (leaves_filled (view m) h c)
    where
      go : (ks : List ℕ) → Filled ks → Each (λ (k : ℕ). 1 ≤ k) ks → Chain m 0 ks → at m (link_at (end 0 ks)) ≡ 0 → Linked (view m) ks 0
      go [] f e l z = elim f [ ]
      go (k ∷ ks) f e l z = chain_linked m k ks e.0 e.1 l.1 z

  pub leaves_chain : Linked (view m) (leaves (view m) h c) 0
      → Chain m 0 (leaves (view m) h c) × (at m (link_at (end 0 (leaves (view m) h c))) ≡ 0)
  leaves_chain = go (leaves (view m) h c) (leaves_filled (view m) h c)
    where
      go : (ks : List ℕ) → Filled ks → Linked (view m) ks 0 → Chain m 0 ks × (at m (link_at (end 0 ks)) ≡ 0)
      go [] f l = elim f [ ]
      go (k ∷ ks) f l = let r = linked_chain m k ks l in ((refl, r.0), r.1)
