-- What each call of a split is handed, from what its caller was handed and what was done before.
use Prim.Native.Nat.{ℕ, suc, ◌+◌, ◌-◌, ◌*◌, ◌/◌, ◌≤◌, ◌<◌}
use mathlib.Core.Path.{◌≡◌, refl, ◌∙◌, ap}
use mathlib.Core.List.{List, [], ◌∷◌}
use mathlib.Core.Bool.{true}
use native.Mathlib.Omega.{arith}
use lib.ListN.{length, take, drop, get_or, length-append}
use lib.Seq.{take-length}
use Rattle.words.specs.Pool as p
use Rattle.words.specs.Blocks.{Pair}
use Rattle.words.specs.declared.write.EventList.{EventList}
use Rattle.words.specs.Written.{Wrote}
use Rattle.words.proofs.Written.{wrote_append}
use Rattle.node.specs.View.{Record, view, link_at}
use Rattle.tree.specs.Header.{used_of, height_of}
use Rattle.tree.specs.Halves.{lower, fifth, supply}
use Rattle.tree.proofs.Form.{form, counts}
use Rattle.change.specs.Steps.{full}
use Rattle.change.specs.Plan.{Plan, log_events, plan_events}
use Rattle.change.specs.Put.{rise, split, needed}
use Rattle.change.specs.Most.{split_levels}
use Rattle.change.proofs.Counts.{staying_few, needed_full, plan_count, counted, no_more, pairs_few}
use Rattle.change.proofs.Most.{depth}
use Rattle.split.specs.inner.Opened.{Met}
use Rattle.split.specs.inner.Splitting.{Room, LeafLevel, InnerLevel, Done, Ready, ToSplit}
use Rattle.split.proofs.Levels.{upper_events, split_done}

-- levels that there are
abbrev pub first_of : List ℕ → ℕ
first_of ks = get_or ks 0 0

-- those after the first, as the code has them
abbrev pub rest_of : List ℕ → List ℕ
rest_of ks = take (length ks - 1) (drop 1 ks)

pub rest_is : (ks : List ℕ) → rest_of ks ≡ drop 1 ks
rest_is [] = refl
rest_is (k ∷ ks) =
    let n : length (k ∷ ks) - 1 ≡ length ks = omega arith in
    ap (λ (i : ℕ). take i ks) n ∙ take-length ks

pub some_levels : (ks : List ℕ) → 1 ≤ length ks → ks ≡ first_of ks ∷ rest_of ks
some_levels [] h = absurd (omega arith)
some_levels (k ∷ ks) h = rw (rest_is (k ∷ ks)) refl

pub no_levels : (ks : List ℕ) → length ks < 1 → ks ≡ []
no_levels [] h = refl
no_levels (k ∷ ks) h = absurd (omega arith)

module _ {m ks : List ℕ} {i : ℕ} {l : EventList} {g : List Pair} (rd : Ready m ks i l g) where
  pub ready_counts : (p.words_least ≤ length m) × (used_of m + i < 40010) × (height_of m ≤ p.height_most)
  ready_counts =
      let f = form m rd.form in
      let c = counts m rd.counts in
      (f.least, omega (arith, c.used, f.capacity, rd.high), c.height.1)

  pub room_with : 1 ≤ needed m ks → Room (supply (used_of m) i) l g
  room_with h =
      let f = form m rd.form in
      record {
        number = omega (arith, rd.free, f.capacity);
        events = omega (arith, rd.need, rd.events);
        pairs = omega (arith, rd.need, rd.pairs);
      }

-- above the root
pub ready_top : {m : List ℕ} {i : ℕ} {l : EventList} {g : List Pair} → Ready m [] i l g → Room (supply (used_of m) i) l g
unfolding needed
ready_top rd = room_with rd (omega arith)

-- with the first level apart
pub ready_first : {m ks : List ℕ} {i : ℕ} {l : EventList} {g : List Pair} → Ready m ks i l g → 1 ≤ length ks
    → Ready m (first_of ks ∷ rest_of ks) i l g
ready_first {ks = ks} rd some = rw (some_levels ks some) at rd

module _ {m above : List ℕ} {k i : ℕ} {l : EventList} {g : List Pair} (rd : Ready m (k ∷ above) i l g) where
  pub ready_pairs : length g + 4 ≤ p.pairs_most
  ready_pairs = omega (arith, rd.pairs, rd.high)

  module _ (t : full (view m k) ≡ true) where
    need : needed m (k ∷ above) ≡ suc (needed m above)
    need = needed_full m k above t

    pub ready_full : Room (supply (used_of m) i) l g
    ready_full = room_with rd (omega (arith, need))

    pub ready_on : (up : Record) {r : Record} {l₁ : EventList} {g₁ : List Pair} → InnerLevel m k up (supply (used_of m) i) l g l₁ g₁ r
        → Ready m above (i + 1) l₁ g₁
    ready_on up v = record {
      form = rd.form;
      counts = rd.counts;
      high = omega (arith, rd.high);
      nodes = rd.nodes.1;
      need = omega (arith, rd.need, need);
      free = omega (arith, rd.free, need);
      events = omega (
        arith,
        rd.events,
        v.wrote.next,
        upper_events m k (supply (used_of m) i) (fifth (view m k) up).1 (lower + 1) up t,
      );
      pairs = rw (v.noted.pairs, length-append) (omega (arith, rd.pairs, staying_few k (view m k) up []));
    }

-- a put into a full leaf
module _ {m path : List ℕ} {rank key : ℕ} (sp : ToSplit m path rank key) where
  abbrev leaf : ℕ
  leaf = get_or path 0 0

  abbrev above : List ℕ
  above = rest_of path

  whole : path ≡ leaf ∷ above
  whole = some_levels path sp.some

  needs : needed m path ≡ suc (needed m above)
  needs = ap (needed m) whole ∙ needed_full m leaf above sp.full_is

  pub split_counts : (p.words_least ≤ length m) × (used_of m ≤ p.capacity_most)
  split_counts =
      let f = form m sp.form in
      (f.least, omega (arith, f.capacity, (counts m sp.counts).used))

  -- so with what its two calls have done
  pub leaf_done : (x : Record) {r : Record} {l l₁ l₂ : EventList} {g₁ g₂ : List Pair} → LeafLevel m leaf x (used_of m + 1) l [] l₁ g₁ r
      → Done (rise m above r 1) l₁ g₁ l₂ g₂ → Done (split m leaf above x) l [] l₂ g₂
  leaf_done x v d = let e : used_of m + 1 ≡ supply (used_of m) 0 = omega arith in split_done m leaf above x (rw e at v) d

  pub leaf_met : Met m leaf
  leaf_met = (rw whole at sp.nodes).0

  pub leaf_room : {l : EventList} → l.events ≡ 0 → Room (used_of m + 1) l []
  leaf_room e = record {
    number = omega (arith, sp.free, needs, (form m sp.form).capacity, (counts m sp.counts).used);
    events = omega arith;
    pairs = omega arith;
  }

  pub leaf_ready : (x : Record) {r : Record} {l l₁ : EventList} {g₁ : List Pair} → l.events ≡ 0
      → LeafLevel m leaf x (used_of m + 1) l [] l₁ g₁ r → Ready m above 1 l₁ g₁
  leaf_ready x e v =
      let f = form m sp.form in
      let c = counts m sp.counts in
      record {
        form = sp.form;
        counts = sp.counts;
        high = omega (arith, sp.high, ap length whole);
        nodes = (rw whole at sp.nodes).1;
        need = omega (arith, sp.need, needs);
        free = omega (arith, sp.free, needs, c.used);
        events = omega (arith, v.wrote.next, upper_events m leaf (used_of m + 1) (view m leaf).link lower x sp.full_is);
        pairs = rw v.noted.pairs (staying_few leaf (view m leaf) x ((link_at leaf, used_of m + 1) ∷ []));
      }

  levels_seven : split_levels m (leaf ∷ above) ≤ 7
  levels_seven =
      let d = depth m (leaf ∷ above) in
      omega (arith, d.low, d.high, d.long, ap length whole, sp.need, needs, needed_full m leaf above sp.full_is, sp.high)

  -- no split plans more events than the table's most, and the log holds its pairs
  pub planned_few : (x : Record) → let q = split m leaf above x in
      (1 ≤ length q.pairs) × (length q.pairs ≤ 26) × (length (plan_events q) ≤ p.events_most)
  planned_few x =
      let c = counted m leaf above x sp.full_is in
      let d = depth m (leaf ∷ above) in (
        omega (arith, c.pairs, levels_seven, d.high),
        pairs_few m leaf above x sp.full_is levels_seven,
        omega (arith, no_more m leaf above x sp.full_is, levels_seven, d.high),
      )

-- a plan whose new nodes are written from the first event on, and its pairs noted from the first on
module _ (q : Plan) {l l₁ : EventList} {g : List Pair} (d : Done q l [] l₁ g) where
  pub done_room : l.events ≡ 0 → 1 ≤ length q.pairs → length (plan_events q) ≤ p.events_most
      → (1 ≤ length g) × (l₁.events + 4 * length g + length g / 4 + 9 ≤ p.events_most)
  done_room e some most = rw d.noted.pairs (some, omega (arith, d.wrote.next, plan_count q some))

  pub plan_written : {l₂ : EventList} → Wrote (log_events g) l₁ l₂ → Wrote (plan_events q) l l₂
  unfolding plan_events
  plan_written w = wrote_append d.wrote (rw d.noted.pairs at w)
