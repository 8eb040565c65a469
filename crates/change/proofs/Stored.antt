-- What a word holds after some pairs were stored: the last value stored to it, or what it held.
use Prim.Native.Nat.{ℕ, ◌<◌}
use mathlib.Core.Path.{◌≡◌, refl, sym}
use mathlib.Core.List.{List, [], ◌∷◌}
use mathlib.Core.Bool.{Bool, true, false}
use lib.ListN.{length, set, length-set}
use lib.Seq.{get_or-set_same, get_or-set_other}
use lib.Dec.{eqb}
use borrow.Author.Tests.{eqb-true, eqb-false}
use Rattle.std.specs.Prelude.{if◌then◌else◌}
use Rattle.words.specs.Event.{at, run}
use Rattle.words.specs.Blocks.{Pair, stores}

-- of a word that held x
abbrev pub last_in : List Pair → ℕ → ℕ → ℕ
last_in [] w x = x
last_in (p ∷ ps) w x = last_in ps w (if eqb p.0 w then p.1 else x)

at_set : (m : List ℕ) (a v w : ℕ) → w < length m → at (set m a v) w ≡ (if eqb a w then v else at m w)
at_set m a v w h = go (eqb a w) refl
  where
    go : (b : Bool) → eqb a w ≡ b → at (set m a v) w ≡ (if b then v else at m w)
    go true t = let e : a ≡ w = eqb-true a w t in rw e (get_or-set_same m w v 0 h)
    go false t = get_or-set_other m a w v 0 (λ e. eqb-false a w t (sym e))

pub at_stores : (ps : List Pair) (m : List ℕ) (w : ℕ) → w < length m → at (run m (stores ps)) w ≡ last_in ps w (at m w)
at_stores [] m w h = refl
at_stores (p ∷ ps) m w h =
    rw (at_stores ps (set m p.0 p.1) w (rw length-set h), at_set m p.0 p.1 w h)
