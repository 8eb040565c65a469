-- `words::carry::carry_all` meets its contract: what is left of the events, carried out on the pool so far, leaves what all of them
-- leave. At the end none is left, or only such as the list does not have.
use Prim.Native.Nat.{ℕ, suc, ◌+◌, ◌-◌, ◌/◌, ◌≤◌, ◌<◌, min}
use mathlib.Core.Path.{◌≡◌}
use mathlib.Core.List.{List}
use native.Mathlib.Omega.{arith}
use native.Mathlib.Decide.{dec_le}
use native.Mathlib.Numerals.{add-one}
use lib.ListN.{length}
use Rattle.words.specs.Event.{event_at}
use Rattle.words.specs.Carry.{after, after_all}
use Rattle.words.proofs.Listed.{past_all}
use Rattle.words.proofs.carry.carry_all.Goals as goal

-- one event more
one_more : (m k l : List ℕ) (n c : ℕ) (t : List ℕ) → n ≤ c → after_all m l n (c + 1 - n) ≡ t → k ≡ after m (event_at l n)
    → after_all k l (n + 1) (c + 1 - (n + 1)) ≡ t
unfolding after_all
one_more m k l n c t h e is = let left : c + 1 - n ≡ suc (c + 1 - suc n) = omega arith in rw (is, add-one n) (rw left at e)

-- none is left, or only such as the list does not have
none_left : (m l : List ℕ) (n c : ℕ) (t : List ℕ) → min c (length l / 2) < n → after_all m l n (c + 1 - n) ≡ t → m ≡ t
unfolding after_all
none_left m l n c t end e = go (dec_le n c)
  where
    go : Dec (n ≤ c) → m ≡ t
    go (yes some) = rw (past_all m l n (c + 1 - n) (omega arith)) at e
    go (no all) = let over : c + 1 - n ≡ 0 = omega arith in rw over at e

pub returns-then-events-eq0 : goal.returns-then-events-eq0
unfolding after_all
returns-then-events-eq0 c = rw c.if-events-eq0.true

pub loop-n-preserved : goal.loop-n-preserved
loop-n-preserved c = one_more _ _ _ _ _ _ (omega arith) c.loop-n.invariant c.carry_out.ensures.1

pub returns-else-events-eq0 : goal.returns-else-events-eq0
returns-else-events-eq0 c = none_left _ _ _ _ _ (omega arith) c.loop-n.invariant

pub returns-else-events-eq0-2 : goal.returns-else-events-eq0-2
returns-else-events-eq0-2 c =
    none_left _ _ _ _ _ (omega arith) (one_more _ _ _ _ _ _ (omega arith) c.loop-n.invariant c.carry_out.ensures.1)
