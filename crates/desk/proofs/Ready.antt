-- A house that is ready stays so through a row, by the pool part's promise.
use Prim.Native.Nat.{ℕ, ◌≤◌}
use mathlib.Core.Path.{◌≡◌, refl, sym, ◌∙◌, subst}
use mathlib.Core.List.{List, [], ◌∷◌, ◌++◌}
use mathlib.Core.Bool.{Bool, true, false}
use native.Mathlib.Decide.{ℕ_discrete}
use lib.ListN.{length}
use Rattle.std.specs.Prelude.{Some}
use Rattle.words.specs.Pool.{list_words}
use Rattle.change.specs.declared.Request.{Request}
use Rattle.desk.specs.Desk.{fresh, held, with_desk, accepts}
use Rattle.desk.specs.Turn.{Left, submit_desks}
use Rattle.desk.specs.Rows.{our_way, House, Call, submit, turn, step, after}
use Rattle.desk.specs.Demand3.{Pools, Given, Ready}
use Rattle.desk.proofs.Bounds.{turn_may}
use Rattle.desk.proofs.Desks.{length_with, with_other, with_same, length_submit, submit_there, submit_none, submit_other}
use Rattle.desk.proofs.Took.{Sits, left_by, turn_in, Took, nobody_full, one_served, took}
use Rattle.desk.proofs.Fair.{Lent}
use Rattle.desk.proofs.Promise.{Kept, Promise, pool_is}

module _ (P : Pools) where
  pub lent : (r : List Call) → Given P r → Lent r
  lent [] g = tt
  lent (submit j q ∷ r) g = lent r g.1
  lent (turn l ∷ r) g = (g.0, lent r g.1)

  pub given_first : (r : List Call) (c : Call) (s : List Call) → Given P (r ++ c ∷ s) → Given P r
  given_first [] c s g = tt
  given_first (submit j q ∷ r) c s g = (g.0, given_first r c s g.1)
  given_first (turn l ∷ r) c s g = (g.0, given_first r c s g.1)

  pub given_then : (r : List Call) (c : Call) (s : List Call) → Given P (r ++ c ∷ s) → Given P (c ∷ s)
  given_then [] c s g = g
  given_then (submit j q ∷ r) c s g = given_then r c s g.1
  given_then (turn l ∷ r) c s g = given_then r c s g.1

  pub sits : {h : House} → Ready P h → Sits h
  sits {h} y = turn_may (length h.desks) h.last y.some_desks y.not_many y.last_is

  pub ready_submit : (h : House) (j : ℕ) (q : Request) → P.Fits q → Ready P h → Ready P (step our_way h (submit j q))
  ready_submit h j q f y =
      let n = length_submit h.desks j q in
      record {
        good = y.good;
        some_desks = rw n y.some_desks;
        not_many = rw n y.not_many;
        last_is = rw n y.last_is;
        fit = λ i p. go (accepts h.desks j) refl i p (ℕ_discrete j i);
      }
    where
      go : (b : Bool) → accepts h.desks j ≡ b → (i : ℕ) (p : Request) → Dec (j ≡ i)
          → held (submit_desks h.desks j q) i ≡ Some p → P.Fits p
      go true t i p (yes e) g =
          let s : held (submit_desks h.desks j q) i ≡ Some q =
          subst (λ (x : ℕ). held (submit_desks h.desks j q) x ≡ Some q) e (submit_there h.desks j q t) in
          let k : q ≡ p = cc in
          rw k at f
      go true t i p (no e) g = y.fit i p (sym (submit_other h.desks j q i e) ∙ g)
      go false t i p d g = y.fit i p (rw (submit_none h.desks j q t) at g)

  module _ (K : Promise P) where
    pub kept : (h : House) (l : List ℕ) (k : ℕ) (q : Request) → Ready P h → list_words ≤ length l → held h.desks k ≡ Some q
        → Kept P h.pool l q
    kept h l k q y room e = K.serves h.pool l q y.good (y.fit k q e) room

    pub ready_turn : (h : House) (l : List ℕ) (t : Left) → list_words ≤ length l → Took h l t → Ready P h → Ready P (left_by h t)
    ready_turn h l t room (nobody_full f) y = y
    ready_turn h l t room (one_served k q a b e n) y =
        let x = kept h l k q y room e in
        let m = length_with h.desks k fresh in
        record {
          good = rw (pool_is x) x.good;
          some_desks = rw m y.some_desks;
          not_many = rw m y.not_many;
          last_is = rw m b;
          fit = λ i p. still i p (ℕ_discrete k i);
        }
      where
        still : (i : ℕ) (p : Request) → Dec (k ≡ i) → held (with_desk h.desks k fresh) i ≡ Some p → P.Fits p
        still i p (yes d) g =
            let s : held (with_desk h.desks k fresh) i ≡ fresh =
            subst (λ (x : ℕ). held (with_desk h.desks k fresh) x ≡ fresh) d (with_same h.desks k fresh a b) in
            cc
        still i p (no d) g = y.fit i p (sym (with_other h.desks k i fresh d) ∙ g)

    pub ready_after : (r : List Call) (h : House) → Given P r → Ready P h → Ready P (after our_way h r)
    unfolding after
    ready_after [] h g y = y
    ready_after (submit j q ∷ r) h g y = ready_after r (step our_way h (submit j q)) g.1 (ready_submit h j q g.0 y)
    ready_after (turn l ∷ r) h g y =
        ready_after r (left_by h (turn_in h l)) g.1 (ready_turn h l (turn_in h l) g.0 (took h l (sits y) g.0) y)

    pub same_desks : (r : List Call) (h : House) → Given P r → Ready P h → length (after our_way h r).desks ≡ length h.desks
    unfolding after
    same_desks [] h g y = refl
    same_desks (submit j q ∷ r) h g y =
        same_desks r (step our_way h (submit j q)) g.1 (ready_submit h j q g.0 y) ∙ length_submit h.desks j q
    same_desks (turn l ∷ r) h g y =
        same_desks r (left_by h (turn_in h l)) g.1 (ready_turn h l (turn_in h l) g.0 (took h l (sits y) g.0) y)
        ∙ length_with h.desks (turn_in h l).answer.member fresh
