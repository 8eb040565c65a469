-- The members in the order in which a turn looks.
use Prim.Native.Nat.{ℕ, suc, ◌+◌, ◌-◌, ◌≤◌, ◌<◌}
use mathlib.Core.Path.{◌≡◌, ◌∙◌, ap}
use native.Mathlib.Omega.{arith}
use lib.ListN.{length, length-append, get_or-append}
use lib.Seq.{get_or-append-add}
use Rattle.words.specs.Lists.{count_from}
use Rattle.words.specs.Event.{at}
use Rattle.words.proofs.Lists.{length_from, at_from}
use Rattle.desk.specs.Desk.{round}

pub length_round : (n last : ℕ) → last ≤ n → length (round n last) ≡ n
length_round n last h = length-append (count_from (suc last) (n - last)) (count_from 1 last)
    ∙ rw (length_from (suc last) (n - last), length_from 1 last) (omega arith)

-- "after the one last served"
pub round_ahead : (n last k : ℕ) → k < n - last → at (round n last) k ≡ last + k + 1
round_ahead n last k h =
    get_or-append (count_from (suc last) (n - last)) (count_from 1 last) 0 k (rw length_from h)
    ∙ (at_from (suc last) (n - last) k h ∙ omega arith)

-- "going round"
pub round_about : (n last k : ℕ) → last ≤ n → n - last ≤ k → k < n → at (round n last) k ≡ k - (n - last) + 1
round_about n last k a b c =
    let ahead = count_from (suc last) (n - last) in
    let i : k ≡ length ahead + (k - (n - last)) = rw length_from (omega arith) in
    ap (at (round n last)) i
    ∙ (get_or-append-add ahead (count_from 1 last) (k - (n - last)) 0 ∙ (at_from 1 last (k - (n - last)) (omega arith) ∙ omega arith))
