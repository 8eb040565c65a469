-- A turn that is not refused is Idle or serves the nearest full desk.
use Prim.Native.Nat.{ℕ, ◌≤◌}
use mathlib.Core.Path.{◌≡◌, refl}
use mathlib.Core.List.{List}
use mathlib.Core.Bool.{true, false}
use lib.ListN.{length}
use borrow.Author.Tests.{le-ltb}
use Rattle.std.specs.Prelude.{None, Some, Ok}
use Rattle.words.specs.Pool.{list_words}
use Rattle.change.specs.declared.Request.{Request}
use Rattle.desk.specs.declared.answer.Turned.TheVariants.{Idle}
use Rattle.desk.specs.Desk.{Desk, fresh, full, held, with_desk, may_turn, choose}
use Rattle.desk.specs.Turn.{Left, as_handed, serve_desk, serve_turn, turn}
use Rattle.desk.specs.Rows.{House, Seen}
use Rattle.desk.proofs.Bounds.{not_both, may_turn_true, turn_may}
use Rattle.desk.proofs.Choose.{dist, Choice, nobody, nearest, chosen}
use Rattle.desk.proofs.Desks.{length_with}

-- the desks are 1 to 16, and `last` is one of them or 0
abbrev pub Sits : House → Type 0
Sits h = may_turn (length h.desks) h.last ≡ true

abbrev pub turn_in : House → List ℕ → Left
turn_in h l = turn h.pool l h.desks h.last

-- the house after a turn that left t, and that turn as it was seen
abbrev pub left_by : House → Left → House
left_by h t = record { pool = t.pool; desks = with_desk h.desks t.answer.member fresh; last = t.answer.last }

abbrev pub seen_by : House → Left → Seen
seen_by h t = record { handed = h; left = t }

-- no full desk is nearer than k's
abbrev pub Nearest : House → ℕ → Type 0
Nearest h k =
    (j : ℕ) → full (held h.desks j) ≡ true → dist (length h.desks) h.last k ≤ dist (length h.desks) h.last j

pub data Took (h : House) (l : List ℕ) : Left → Type 0 where
  nobody_full : ((j : ℕ) → full (held h.desks j) ≡ false) → Took h l (as_handed h.pool l h.last (Ok Idle))
  one_served : (k : ℕ) (q : Request) → 1 ≤ k → k ≤ length h.desks → held h.desks k ≡ Some q → Nearest h k
      → Took h l (serve_desk h.pool l h.last k (Some q))

pub took : (h : House) (l : List ℕ) → Sits h → list_words ≤ length l → Took h l (turn_in h l)
unfolding serve_turn
took h l s room =
    rw (s, le-ltb (length l) list_words room)
    (go (choose h.desks h.last) (chosen h.desks h.last (may_turn_true (length h.desks) h.last s).2))
  where
    serve : (k : ℕ) (d : Desk) → held h.desks k ≡ d → full d ≡ true → 1 ≤ k → k ≤ length h.desks → Nearest h k
        → Took h l (serve_desk h.pool l h.last k d)
    serve k None e f a b n = absurd (not_both false f refl)
    serve k (Some q) e f a b n = one_served k q a b e n

    go : (k : ℕ) → Choice h.desks h.last k → Took h l (serve_desk h.pool l h.last k (held h.desks k))
    go k (nobody f) = nobody_full f
    go k (nearest a b f n) = serve k (held h.desks k) refl f a b n

-- and the desks sit as before
pub sits_turn : (h : House) (l : List ℕ) (t : Left) → Took h l t → Sits h → Sits (left_by h t)
sits_turn h l t (nobody_full f) s = s
sits_turn h l t (one_served k q a b e n) s =
    let c = may_turn_true (length h.desks) h.last s in
    rw (length_with h.desks k fresh) (turn_may (length h.desks) k c.0 c.1 b)
