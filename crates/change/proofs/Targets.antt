-- Where the plan of a split stores: its pairs to the header's counts and to nodes on the path, its new nodes above used, no word twice.
use Prim.Native.Nat.{ℕ, suc, ◌+◌, ◌-◌, ◌≤◌, ◌<◌}
use mathlib.Core.Path.{◌≡◌, refl}
use mathlib.Core.Logic.{◌⊎◌, inl, inr, ⊎_elim}
use mathlib.Core.List.{List, [], ◌∷◌, ◌++◌}
use mathlib.Core.Bool.{Bool, true, false}
use native.Mathlib.Omega.{arith}
use lib.ListN.{length, take, drop, length-take, length-drop}
use lib.Dec.{ltb}
use borrow.Author.Tests.{eqb-false}
use Rattle.words.specs.Pool.{node_at, used_at, commit_at}
use Rattle.words.specs.Blocks.{Pair}
use Rattle.words.proofs.Blocks.{Off}
use Rattle.node.specs.Slot.{entries}
use Rattle.node.specs.View.{Record, View, view, rank, slot_at, link_at, key_at, value_at}
use Rattle.node.proofs.Spots.{spot_below}
use Rattle.tree.specs.Header.{used_of, root_of}
use Rattle.tree.specs.Lists.{occ}
use Rattle.tree.specs.WellFormed.{WellFormed}
use Rattle.tree.specs.Halves.{eight, lower, fifth, upper_three, supply, used_with}
use Rattle.tree.proofs.Lists.{each_append, one_self}
use Rattle.tree.proofs.Fits.{view_sized}
use Rattle.tree.proofs.Frame.{whole_named}
use Rattle.tree.proofs.Eight.{eight_more}
use Rattle.change.specs.Steps.{full, entry_pairs, laid, new_node, staying_spot, lower_slot, staying_pairs}
use Rattle.change.specs.Plan.{Plan}
use Rattle.change.specs.Put.{rise}
use Rattle.change.proofs.Pairs.{Within, Between, Apart, within_at, within_off, within_weaken, between_more, apart_append}
use Rattle.change.proofs.Goes.{node_pairs}
use Rattle.change.proofs.Nodes.{InNode, taken_pairs, taken_in, taken_apart}

-- word w is of a node on the path
abbrev pub OnPath : List ℕ → ℕ → Type 0
OnPath path w = (j : ℕ) × (1 ≤ occ j path) × InNode j w

-- or it is used, root or height
abbrev pub Target : List ℕ → ℕ → Type 0
Target path w = Between used_at commit_at w ⊎ OnPath path w

-- word w is of one of the c new nodes that come after i others
abbrev pub InNew : List ℕ → ℕ → ℕ → ℕ → Type 0
InNew m i c = Between (node_at (supply (used_of m) i)) (node_at (supply (used_of m) (i + c)))

-- where the pairs and the new nodes of a plan lie, no word twice
pub record Placed (m path : List ℕ) (i : ℕ) (p : Plan) : Type 0 where
  pub pairs_in : Within (Target path) p.pairs
  pub pairs_apart : Apart p.pairs
  pub nodes_in : Within (InNew m i (length p.nodes)) (node_pairs p)
  pub nodes_apart : Apart (node_pairs p)

-- the numbers of a path are in use, each once
pub record Path (m path : List ℕ) : Type 0 where
  pub once : (j : ℕ) → occ j path ≤ 1
  pub range : (j : ℕ) → 1 ≤ occ j path → (1 ≤ j) × (j ≤ used_of m)

-- a new node
laid_in : (k i : ℕ) (rs : List Record) → Within (Between (key_at k i) (key_at k (i + length rs))) (laid k i rs)
laid_in k i [] = tt
laid_in k i (r ∷ rs) = (
  (omega arith, omega arith),
  ((omega arith, omega arith), between_more (laid k (i + 1) rs) (omega arith) (omega arith) (laid_in k (i + 1) rs)),
)

laid_off : (k i w : ℕ) (rs : List Record) → w < key_at k i → Off (laid k i rs) w
laid_off k i w rs h = within_off _ (laid k i rs) w (laid_in k i rs) (λ n. omega (arith, n.0))

laid_apart : (k i : ℕ) (rs : List Record) → Apart (laid k i rs)
laid_apart k i [] = tt
laid_apart k i (r ∷ rs) = (
  ⊎_elim (omega arith) (laid_off k (i + 1) (key_at k i) rs (omega arith)),
  (laid_off k (i + 1) (value_at k i) rs (omega arith), laid_apart k (i + 1) rs),
)

new_in : (k link : ℕ) (rs : List Record) → length rs ≤ entries → Within (InNode k) (new_node k link rs)
new_in k link rs h = (
  (omega arith, omega arith),
  ((omega arith, omega arith), between_more (laid k 0 rs) (omega arith) (omega arith) (laid_in k 0 rs)),
)

new_apart : (k link : ℕ) (rs : List Record) → Apart (new_node k link rs)
new_apart k link rs = (
  ⊎_elim (omega arith) (laid_off k 0 (slot_at k) rs (omega arith)),
  (laid_off k 0 (link_at k) rs (omega arith), laid_apart k 0 rs),
)

-- the pairs for word 1 of a split level: one or none
pub record OfLink (k : ℕ) (ws : List Pair) : Type 0 where
  pub only : Within (λ w. w ≡ link_at k) ws
  pub apart : Apart ws

-- all pairs of a split level
module _ (k : ℕ) (u : View) (r : Record) {ws : List Pair} (l : OfLink k ws) where
  abbrev e : ℕ
  e = staying_spot u

  abbrev slots : List Pair
  slots = (slot_at k, lower_slot u r.0) ∷ []

  abbrev Low : ℕ → Type 0
  Low = Between (slot_at k) (key_at k 0)

  abbrev High : ℕ → Type 0
  High = Between (key_at k 0) (key_at k entries)

  low_in : Within Low (ws ++ slots)
  low_in =
      each_append (λ (p : Pair). Low p.0) ws slots (within_weaken (λ w. w ≡ link_at k) ws (λ w q. (omega arith, omega arith)) l.only)
      ((omega arith, omega arith), tt)

  low_apart : Apart (ws ++ slots)
  low_apart =
      apart_append ws slots l.apart (absurd, tt) (λ w a.
      ⊎_elim (λ q. omega (arith, within_at (λ w. w ≡ link_at k) ws w l.only a)) absurd)

  high_in : Within High (entry_pairs k e r)
  high_in =
      let h : e < entries = spot_below (take (lower - 1) u.named) (rw length-take (omega arith)) in
      ((omega arith, omega arith), ((omega arith, omega arith), tt))

  pub stay_in : Within (InNode k) (staying_pairs k u r ws)
  unfolding staying_pairs
  stay_in = go (ltb (rank u r.0) lower) refl
    where
      low : Within (InNode k) (ws ++ slots)
      low = between_more (ws ++ slots) (omega arith) (omega arith) low_in

      go : (t : Bool) → ltb (rank u r.0) lower ≡ t → Within (InNode k) (staying_pairs k u r ws)
      go true t =
          rw t (each_append (λ (p : Pair). InNode k p.0) (entry_pairs k e r) (ws ++ slots)
          (between_more (entry_pairs k e r) (omega arith) (omega arith) high_in) low)
      go false t = rw t low

  stay_apart : Apart (staying_pairs k u r ws)
  unfolding staying_pairs
  stay_apart = go (ltb (rank u r.0) lower) refl
    where
      go : (t : Bool) → ltb (rank u r.0) lower ≡ t → Apart (staying_pairs k u r ws)
      go true t =
          rw t (apart_append (entry_pairs k e r) (ws ++ slots) (⊎_elim (omega arith) absurd, (absurd, tt)) low_apart (λ w a.
          within_off Low (ws ++ slots) w low_in (λ n. omega (arith, n.1, (within_at High (entry_pairs k e r) w high_in a).0))))
      go false t = rw t low_apart

-- a node of the path, and those above it
module _ {m : List ℕ} {k : ℕ} {above : List ℕ} (t : Path m (k ∷ above)) where
  pub path_above : Path m above
  path_above = record { once = λ j. omega (arith, t.once j); range = λ j o. t.range j (omega arith) }

  pub path_head : (1 ≤ k) × (k ≤ used_of m)
  path_head = t.range k (omega (arith, one_self k))

  pub target_here : (x : ℕ) → InNode k x → Target (k ∷ above) x
  target_here x n = inr (k, omega (arith, one_self k), n)

  pub target_above : (x : ℕ) → Target above x → Target (k ∷ above) x
  target_above x (inl h) = inl h
  target_above x (inr h) = inr (h.0, omega (arith, h.1), h.2)

  -- a node's words are none of those above it
  pub target_other : (x : ℕ) → InNode k x → ¬ Target above x
  target_other x n (inl h) = omega (arith, n.0, h.1, path_head.0)
  target_other x n (inr h) =
      let e : h.0 ≡ k = omega (arith, n, h.2) in
      let o : 1 ≤ occ k above = rw e at h.1 in
      omega (arith, t.once k, one_self k)

  -- a level that splits, leaf or not: its new node and its pairs, and what is planned above it
  module _ (i link : ℕ) (rs : List Record) (r : Record) {ws : List Pair} (rest : Plan) (few : length rs ≤ entries) (l : OfLink k ws)
      (p : Placed m above (i + 1) rest) where
    pub placed_split : Placed m (k ∷ above) i (record {
      nodes = new_node (supply (used_of m) i) link rs ∷ rest.nodes;
      pairs = staying_pairs k (view m k) r ws ++ rest.pairs;
    })
    placed_split = record {
      pairs_in = each_append (λ (q : Pair). Target (k ∷ above) q.0) stay rest.pairs
          (within_weaken (InNode k) stay target_here (stay_in k u r l))
          (within_weaken (Target above) rest.pairs target_above p.pairs_in);
      pairs_apart = apart_append stay rest.pairs (stay_apart k u r l) p.pairs_apart (λ x a.
          within_off (Target above) rest.pairs x p.pairs_in (target_other x (within_at (InNode k) stay x (stay_in k u r l) a)));
      nodes_in = each_append (λ (q : Pair). InNew m i (suc (length rest.nodes)) q.0) new (node_pairs rest)
          (between_more new (omega arith) (omega arith) (new_in (supply (used_of m) i) link rs few))
          (between_more (node_pairs rest) (omega arith) (omega arith) p.nodes_in);
      nodes_apart = apart_append new (node_pairs rest) (new_apart (supply (used_of m) i) link rs) p.nodes_apart (λ x a.
          within_off _ (node_pairs rest) x p.nodes_in (λ n.
          omega (arith, n.0, (within_at (InNode (supply (used_of m) i)) new x (new_in (supply (used_of m) i) link rs few) a).1)));
    }
      where
        u : View
        u = view m k

        stay : List Pair
        stay = staying_pairs k (view m k) r ws

        new : List Pair
        new = new_node (supply (used_of m) i) link rs

module _ {m : List ℕ} (w : WellFormed m) where
  -- a full node and a record: at most four go over
  pub over_few : (k : ℕ) (r : Record) (c : ℕ) → k ≤ used_of m → 1 ≤ k → lower ≤ c → length (drop c (eight (view m k) r)) ≤ entries
  over_few k r c q p h =
      rw length-drop (omega (arith, eight_more (view m k) r, view_sized m k, (whole_named w.whole k p q).few))

  pub rise_placed : (above : List ℕ) (up : Record) (i : ℕ) → Path m above → Placed m above i (rise m above up i)
  unfolding rise
  rise_placed [] up i t = record {
    pairs_in = (inl (omega arith, omega arith), (inl (omega arith, omega arith), (inl (omega arith, omega arith), tt)));
    pairs_apart = (⊎_elim (omega arith) (⊎_elim (omega arith) absurd), (⊎_elim (omega arith) absurd, (absurd, tt)));
    nodes_in = between_more (new_node (supply (used_of m) i) (root_of m) (up ∷ [])) (omega arith) (omega arith)
        (new_in (supply (used_of m) i) (root_of m) (up ∷ []) (omega arith));
    nodes_apart = new_apart (supply (used_of m) i) (root_of m) (up ∷ []);
  }
  rise_placed (k ∷ above) up i t =
      go (rise_placed above ((fifth (view m k) up).0, supply (used_of m) i) (i + 1) (path_above t)) (full (view m k)) refl
    where
      u : View
      u = view m k

      range : (1 ≤ k) × (k ≤ used_of m)
      range = path_head t

      go : Placed m above (i + 1) (rise m above ((fifth (view m k) up).0, supply (used_of m) i) (i + 1)) → (b : Bool)
          → full (view m k) ≡ b → Placed m (k ∷ above) i (rise m (k ∷ above) up i)
      go p true f =
          rw f (placed_split t i (fifth u up).1 (upper_three u up) up
          (rise m above ((fifth u up).0, supply (used_of m) i) (i + 1)) (over_few k up (lower + 1) range.1 range.0 (omega arith))
          (record { only = tt; apart = tt }) p)
      go p false f =
          let room : length u.named < entries =
          omega (arith, eqb-false (length u.named) entries f, (whole_named w.whole k range.0 range.1).few) in
          let ps : List Pair = taken_pairs k u up in
          let last : List Pair = (used_at, used_with (used_of m) i) ∷ [] in
          rw f (record {
            pairs_in = each_append (λ (q : Pair). Target (k ∷ above) q.0) ps last
                (within_weaken (InNode k) ps (target_here t) (taken_in k u up room)) (inl (omega arith, omega arith), tt);
            pairs_apart = apart_append ps last (taken_apart k u up) (absurd, tt) (λ x a.
                ⊎_elim (λ e. omega (arith, (within_at (InNode k) ps x (taken_in k u up room) a).0, range.0)) absurd);
            nodes_in = tt;
            nodes_apart = tt;
          })
