-- The member that a turn answers is nobody or the one that was chosen; the pool after it is that of its events, carried out.
use Prim.Native.Nat.{ℕ}
use mathlib.Core.Path.{◌≡◌, refl, sym, ◌∙◌}
use mathlib.Core.Logic.{◌⊎◌, inl, inr}
use mathlib.Core.List.{List}
use mathlib.Core.Bool.{Bool, true, false, not}
use lib.ListN.{length}
use lib.Dec.{ltb}
use Rattle.std.specs.Prelude.{if◌then◌else◌}
use Rattle.words.specs.Pool.{list_words}
use Rattle.words.specs.Carry.{after_all}
use Rattle.words.specs.declared.refusal.Refusal.TheVariants.{ShortList, NoDesk}
use Rattle.std.specs.Prelude.{Some, None, Err}
use Rattle.desk.specs.declared.answer.Turn.{Turn}
use Rattle.desk.specs.Desk.{Desk, may_turn}
use Rattle.desk.specs.Turn.{Left, as_handed, serve_desk, serve_turn}

module _ (m l : List ℕ) (n last k : ℕ) where
  -- by the answers of its tests
  abbrev pub by : Bool → Bool → Desk → Left
  by nine one d =
      if nine then as_handed m l last (Err NoDesk)
      else if one then as_handed m l last (Err ShortList)
      else serve_desk m l last k d

  pub member_is : (d : Desk) → ((serve_turn m l n last k d).answer.member ≡ 0) ⊎ ((serve_turn m l n last k d).answer.member ≡ k)
  unfolding serve_turn
  member_is d = go (not (may_turn n last)) (ltb (length l) list_words) d
    where
      go : (a b : Bool) (d : Desk) → ((by a b d).answer.member ≡ 0) ⊎ ((by a b d).answer.member ≡ k)
      go true b d = inl refl
      go false true d = inl refl
      go false false None = inl refl
      go false false (Some q) = inr refl

  -- all events that the turn answers are carried out, and no others
  pub carried_out : (d : Desk) → let t = serve_turn m l n last k d in t.pool ≡ after_all m t.list 1 t.answer.events
  unfolding serve_turn after_all
  carried_out d = go (not (may_turn n last)) (ltb (length l) list_words) d
    where
      go : (a b : Bool) (d : Desk) → (by a b d).pool ≡ after_all m (by a b d).list 1 (by a b d).answer.events
      go true b d = refl
      go false true d = refl
      go false false None = refl
      go false false (Some q) = refl

  pub carries : (d : Desk) {r : Turn} {m' l' : List ℕ} → let t = serve_turn m l n last k d in
      r ≡ t.answer → l' ≡ t.list → m' ≡ after_all m l' 1 r.events → m' ≡ t.pool
  carries d e f g = (rw (e, f) at g) ∙ sym (carried_out d)
