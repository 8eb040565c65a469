-- The whole-pool check is exact: it answers Sound, with the nodes and the records, if and only if the pool is well formed.
use Prim.Native.Nat.{ℕ, ◌≤◌}
use mathlib.Core.Path.{◌≡◌, refl}
use mathlib.Core.List.{List}
use mathlib.Core.Bool.{Bool, true, false, not}
use native.Mathlib.Omega.{arith}
use native.Mathlib.Decide.{dec_le}
use lib.Dec.{eqb}
use lib.ListN.{length}
use borrow.Author.Tests.{eqb-true, eqb-false}
use Rattle.std.specs.Prelude.{if◌then◌else◌}
use Rattle.words.specs.Lists.{count_from}
use Rattle.words.specs.Event.{at}
use Rattle.words.proofs.Lists.{length_from}
use Rattle.node.specs.View.{view, link_at}
use Rattle.tree.specs.Header.{used_of, root_of, commit_of, form_agrees, counts_agree}
use Rattle.tree.specs.Kids.{root_kid, inner_least}
use Rattle.tree.specs.Path.{levels_above}
use Rattle.tree.specs.Lists.{occ}
use Rattle.tree.specs.WellFormed.{Views, AllFit, nums, leaves, Whole, WellFormed}
use Rattle.tree.specs.Map.{records_of}
use Rattle.tree.specs.Check.{Seen, Walk, fault, going, onward, ended, start, walk}
use Rattle.tree.proofs.Lists.{each_of}
use Rattle.tree.proofs.Form.{counts}
use Rattle.tree.proofs.Frame.{leaves_in}
use Rattle.tree.proofs.Occurs.{from_in, total, total_all, total_each, whole_size}
use Rattle.tree.proofs.Marks.{end, marked_none, leaves_linked, leaves_chain}
use Rattle.tree.proofs.Walked.{Fresh, Went, right, wrong, Tree, verdict}

-- what the check has found
pub data Checked (m : List ℕ) : Walk → Type 0 where
  sound : {s : Seen} → WellFormed m → s.nodes ≡ used_of m → s.records ≡ length (records_of m) → Checked m (going s)
  faulty : {k : ℕ} {ms : List ℕ} → (WellFormed m → ⊥) → Checked m (fault k ms)

module _ (m marks : List ℕ) (clean : commit_of m ≡ 0) (form : form_agrees m ≡ true) (agree : counts_agree m ≡ true) where
  abbrev U : Views
  U = view m

  abbrev H : ℕ
  H = levels_above m

  abbrev ns : List ℕ
  ns = nums U H (root_kid m)

  abbrev ls : List ℕ
  ls = leaves U H (root_kid m)

  whole_fresh : Whole U (used_of m) H (root_of m) → Fresh m (λ j. 0) ns
  whole_fresh w j o = let i = w.only j o in (i.0, i.1, omega (arith, w.once j i.0 i.1))

  -- as many numbers as are used, all in range and none twice: each is there
  fresh_once : Fresh m (λ j. 0) ns → length ns ≡ used_of m → (j : ℕ) → 1 ≤ j → j ≤ used_of m → occ j ns ≡ 1
  fresh_once f n j p q =
      let run : List ℕ = count_from 1 (used_of m) in
      let t : total run ns ≡ length ns =
      total_all run ns (λ x o. let i = f x o in from_in x 1 (used_of m) i.0 (omega (arith, i.1))) in
      total_each run ns at_most (omega (arith, length_from 1 (used_of m))) j (omega (arith, from_in j 1 (used_of m) p (omega arith)))
    where
      at_most : (i : ℕ) → occ i ns ≤ 1
      at_most i = go (dec_le 1 (occ i ns))
        where
          go : Dec (1 ≤ occ i ns) → occ i ns ≤ 1
          go (yes o) = omega (arith, f i o)
          go (no o) = omega arith

  went_whole : {s : Seen} → AllFit U inner_least H (root_kid m) → Went m (start m marks) s (λ j. 0) ns ls → at m (link_at s.last) ≡ 0
      → s.nodes ≡ used_of m → Whole U (used_of m) H (root_of m)
  went_whole p x z n =
      let n' : length ns ≡ used_of m = omega (arith, x.nodes_are) in
      let low = each_of (λ (k : ℕ). 1 ≤ k) ls (λ k o. (x.fresh k (omega (arith, leaves_in U k H (root_kid m)))).0) in
      record {
        fit = p;
        linked = leaves_linked m H (root_kid m) low x.chain (rw x.last_is at z);
        once = fresh_once x.fresh n';
        only = λ j o. let i = x.fresh j o in (i.0, i.1);
      }

  close : {w : Walk} → Tree m inner_least H (root_kid m) (start m marks) (λ j. 0) w → Checked m (onward (ended m) w)
  close (wrong n) =
      faulty (λ w. n w.whole.fit (whole_fresh w.whole) (leaves_chain m H (root_kid m) w.whole.linked).0)
  close (right {s' = s} p x) = go (eqb (at m (link_at s.last)) 0) (eqb s.nodes (used_of m)) refl refl
    where
      go : (a b : Bool) → eqb (at m (link_at s.last)) 0 ≡ a → eqb s.nodes (used_of m) ≡ b
          → Checked m (if not a then fault s.last s.marks else if not b then fault 0 s.marks else going s)
      go false b t t' = faulty (λ w.
          let z : at m (link_at (end 0 ls)) ≡ 0 = (leaves_chain m H (root_kid m) w.whole.linked).1 in
          eqb-false (at m (link_at s.last)) 0 t (rw x.last_is z))
      go true false t t' = faulty (λ w. eqb-false s.nodes (used_of m) t' (omega (arith, x.nodes_are, whole_size w.whole)))
      go true true t t' =
          let n : s.nodes ≡ used_of m = eqb-true s.nodes (used_of m) t' in
          let z : at m (link_at s.last) ≡ 0 = eqb-true (at m (link_at s.last)) 0 t in
          let w : WellFormed m = record { clean = clean; form = form; counts = agree; whole = went_whole p x z n } in
          sound {s = s} w n (omega (arith, x.records_are))

  pub checked : Checked m (walk m marks)
  unfolding walk
  checked =
      close (verdict m H inner_least 0 (root_kid m) (start m marks) (λ j. 0) (marked_none m marks (counts m agree).used.1))

  -- the same by equations
  pub checked_sound : WellFormed m
      → (s : Seen) × (walk m marks ≡ going s) × (s.nodes ≡ used_of m) × (s.records ≡ length (records_of m))
  checked_sound w = go checked refl
    where
      go : {x : Walk} → Checked m x → walk m marks ≡ x
          → (s : Seen) × (walk m marks ≡ going s) × (s.nodes ≡ used_of m) × (s.records ≡ length (records_of m))
      go (sound {s} w' n r) e = (s, e, n, r)
      go (faulty f) e = absurd (f w)

  pub checked_says : (s : Seen) → walk m marks ≡ going s → WellFormed m × (s.nodes ≡ used_of m) × (s.records ≡ length (records_of m))
  checked_says s e = go (walk m marks) checked e
    where
      go : (x : Walk) → Checked m x → x ≡ going s → WellFormed m × (s.nodes ≡ used_of m) × (s.records ≡ length (records_of m))
      go x (sound {s = s'} w n r) e = let q : s' ≡ s = cc in (w, rw q at n, rw q at r)
      go x (faulty f) e = let z : ◌≡◌ {A = ℕ} 0 1 = cc in absurd (omega arith)
