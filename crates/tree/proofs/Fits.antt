-- A node that fits its cover, taken apart and put together.
use Prim.Native.Nat.{ℕ, ◌≤◌}
use mathlib.Core.Path.{◌≡◌, sym}
use mathlib.Core.List.{List}
use mathlib.Core.Bool.{true}
use native.Mathlib.Omega.{arith}
use lib.ListN.{length, length-map}
use Rattle.words.specs.Event.{at}
use Rattle.node.specs.Lists.{all_below, different}
use Rattle.node.specs.Slot.{entries, names}
use Rattle.node.specs.View.{Record, View, view, entry, slot_at, keys, good}
use Rattle.node.proofs.Views.{Good, good_parts, parts_good}
use Rattle.tree.specs.WellFormed.{Views}
use Rattle.tree.proofs.Keys.{Rise, rise_of, rise_rising, rise_covered}

-- few names, each below 7, all different
pub record Named (u : View) : Type 0 where
  pub few : length u.named ≤ entries
  pub small : all_below entries u.named ≡ true
  pub apart : different u.named ≡ true

-- a node with the least entries, sound and within its cover
pub record Node (least lo hi : ℕ) (u : View) : Type 0 where
  pub low : least ≤ length u.named
  pub names : Named u
  pub rises : Rise lo (keys u.records) hi

pub fits_says : (least lo hi : ℕ) (u : View) → good least lo hi u ≡ true → Node least lo hi u
fits_says least lo hi u t =
    let g : Good least lo hi u = good_parts t in
    record {
      low = g.least_named;
      names = record { few = g.most_named; small = g.names_low; apart = g.names_differ };
      rises = rise_of lo hi (keys u.records) g.keys_rise g.keys_covered;
    }

pub node_fits : {least lo hi : ℕ} {u : View} → Node least lo hi u → good least lo hi u ≡ true
node_fits {lo = lo} n = parts_good (record {
  least_named = n.low;
  most_named = n.names.few;
  names_low = n.names.small;
  names_differ = n.names.apart;
  keys_rise = rise_rising n.rises;
  keys_covered = rise_covered {lo₀ = lo} (omega arith) n.rises;
})

pub fits_fewer : {q : ℕ} (least lo hi : ℕ) (u : View) → q ≤ least → good least lo hi u ≡ true → good q lo hi u ≡ true
fits_fewer least lo hi u h g =
    let n : Node least lo hi u = fits_says least lo hi u g in
    node_fits (record { low = omega (arith, n.low); names = n.names; rises = n.rises })

-- what node k says: its word 1 and its records, under good names
pub record Says (U : Views) (k link : ℕ) (rs : List Record) : Type 0 where
  pub links : (U k).link ≡ link
  pub holds : (U k).records ≡ rs
  pub size : length (U k).named ≡ length rs
  pub small : all_below entries (U k).named ≡ true
  pub apart : different (U k).named ≡ true

pub says : {U : Views} {k link : ℕ} {ns : List ℕ} {rs : List Record} → U k ≡ record { link = link; named = ns; records = rs }
    → length ns ≡ length rs → all_below entries ns ≡ true → different ns ≡ true → Says U k link rs
says e n s a = record { links = rw e; holds = rw e; size = rw e n; small = rw e s; apart = rw e a }

pub says_fits : {U : Views} {k link : ℕ} {rs : List Record} {least lo hi : ℕ} → Says U k link rs → least ≤ length rs
    → length rs ≤ entries → Rise lo (keys rs) hi → good least lo hi (U k) ≡ true
says_fits s l h r = node_fits (record {
  low = omega (arith, s.size);
  names = record { few = omega (arith, s.size); small = s.small; apart = s.apart };
  rises = rw s.holds r;
})

-- a node has as many names as records
abbrev pub Sized : Views → Type 0
Sized U = (k : ℕ) → length (U k).named ≡ length (U k).records

pub view_sized : (m : List ℕ) → Sized (view m)
unfolding view
view_sized m k = sym (length-map (names (at m (slot_at k))) (entry m k))
