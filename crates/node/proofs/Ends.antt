-- A node looked at is held against an upper end by its last key alone.
use mathlib.Core.Path.{◌≡◌, ◌∙◌, sym, refl}
use mathlib.Core.List.{List, [], ◌∷◌}
use mathlib.Core.Bool.{Bool, true, false}
use Prim.Native.Nat.{ℕ, zero, suc, ◌≤◌}
use native.Mathlib.Omega.{arith}
use borrow.Author.Tests.{le-leb, leb-true, leb-false, lt-ltb, le-ltb, ne_eqb}
use lib.Dec.{ltb, leb}
use lib.ListN.{length}
use Rattle.std.specs.Prelude.{Option, Some, None, is_some}
use Rattle.node.specs.Lists.{last_of}
use Rattle.node.specs.View.{Record, View, keys, good}
use Rattle.node.specs.inner.Looked.{Looked, LookedGood, ends}
use Rattle.node.specs.declared.cover.Look.{Look}

-- an upper end that is one past a key, the top
at_top : (top n last : ℕ) → (n ≡ 0 → last ≤ top) → ends (suc top) n last ≡ leb last top
at_top top zero last h = sym (le-leb last top (h refl))
at_top top (suc n) last h = rw (ne_eqb (suc n) 0 (λ q. omega arith)) (go (leb last top) refl)
  where
    go : (b : Bool) → leb last top ≡ b → ltb last (suc top) ≡ b
    go true e = lt-ltb last (suc top) (omega (arith, leb-true last top e))
    go false e = le-ltb last (suc top) (omega (arith, leb-false last top e))

last_none : (lo : ℕ) (rs : List Record) → length rs ≡ 0 → last_of lo (keys rs) ≡ lo
unfolding last_of
last_none lo [] z = refl
last_none lo (r ∷ rs) z = absurd (omega arith)

-- of a node that is good something was seen
pub seen_good : (least lo key : ℕ) (u : View) (seen : Option Look) → Looked least lo key u seen → (hi : ℕ) → good least lo hi u ≡ true
    → is_some seen ≡ true
seen_good least lo key u None f hi t = sym (f hi) ∙ t
seen_good least lo key u (Some r) l hi t = refl

-- held against a top
pub kept : {least lo key : ℕ} {u : View} {seen : Look} → LookedGood least lo key u seen → (top : ℕ) → lo ≤ top
    → good least lo (suc top) u ≡ leb seen.last top
kept {lo = lo} {u = u} {seen = seen} l top h =
    let none : length u.records ≡ 0 → seen.last ≤ top = λ z. omega (arith, l.last_is, last_none lo u.records z) in
    l.good_is (suc top) ∙ at_top top (length u.records) seen.last none
