-- The desk that a turn chooses is the nearest full one after the last served, going round.
use Prim.Native.Nat.{ℕ, zero, suc, ◌+◌, ◌-◌, ◌≤◌, ◌<◌}
use mathlib.Core.Path.{◌≡◌, refl}
use mathlib.Core.List.{List, [], ◌∷◌, ◌++◌}
use mathlib.Core.Bool.{Bool, true, false}
use native.Mathlib.Omega.{arith}
use native.Mathlib.Decide.{dec_lt, ℕ_discrete}
use lib.Dec.{ltb}
use lib.ListN.{length, get_or-eq_default}
use borrow.Author.Tests.{lt-ltb, le-ltb}
use Rattle.words.specs.Lists.{count_from}
use Rattle.std.specs.Prelude.{if◌then◌else◌}
use Rattle.desk.specs.Desk.{Desk, fresh, full, held, first_full, choose}
use Rattle.desk.proofs.Bounds.{not_both}

-- how far member j is after `last`, going round M members: 1 to M
abbrev pub dist : ℕ → ℕ → ℕ → ℕ
dist M last j = if ltb last j then (j - last) else (M + j - last)

data Far (M last j d : ℕ) : Type 0 where
  ahead : last < j → d ≡ j - last → Far M last j d
  round_about : j ≤ last → d ≡ M + j - last → Far M last j d

far : (M last j : ℕ) → Far M last j (dist M last j)
far M last j = go (dec_lt last j)
  where
    go : Dec (last < j) → Far M last j (dist M last j)
    go (yes h) = ahead h (rw (lt-ltb last j h))
    go (no h) = round_about (omega arith) (rw (le-ltb last j (omega arith)))

module _ (M last : ℕ) (l : last ≤ M) where
  pub dist_range : (j : ℕ) → 1 ≤ j → j ≤ M → (1 ≤ dist M last j) × (dist M last j ≤ M)
  dist_range j a b = go (dist M last j) (far M last j)
    where
      go : (d : ℕ) → Far M last j d → (1 ≤ d) × (d ≤ M)
      go d (ahead p e) = omega arith
      go d (round_about p e) = omega arith

  -- one that is nearer is on the way to one that is farther
  pub dist_step : (k j : ℕ) → 1 ≤ k → k ≤ M → 1 ≤ j → j ≤ M → dist M last k < dist M last j
      → dist M last k + dist M k j ≡ dist M last j
  dist_step k j a b c d = go (dist M last k) (dist M last j) (dist M k j) (far M last k) (far M last j) (far M k j)
    where
      go : (x y z : ℕ) → Far M last k x → Far M last j y → Far M k j z → x < y → x + z ≡ y
      go x y z (ahead p e) (ahead q f) (ahead r g) h = omega arith
      go x y z (ahead p e) (ahead q f) (round_about r g) h = omega arith
      go x y z (ahead p e) (round_about q f) (ahead r g) h = omega arith
      go x y z (ahead p e) (round_about q f) (round_about r g) h = omega arith
      go x y z (round_about p e) (ahead q f) (ahead r g) h = omega arith
      go x y z (round_about p e) (ahead q f) (round_about r g) h = omega arith
      go x y z (round_about p e) (round_about q f) (ahead r g) h = omega arith
      go x y z (round_about p e) (round_about q f) (round_about r g) h = omega arith

  pub dist_same : (k j : ℕ) → 1 ≤ k → k ≤ M → 1 ≤ j → j ≤ M → dist M last k ≡ dist M last j → k ≡ j
  dist_same k j a b c d = go (dist M last k) (dist M last j) (far M last k) (far M last j)
    where
      go : (x y : ℕ) → Far M last k x → Far M last j y → x ≡ y → k ≡ j
      go x y (ahead p e) (ahead q f) h = omega arith
      go x y (ahead p e) (round_about q f) h = omega arith
      go x y (round_about p e) (ahead q f) h = omega arith
      go x y (round_about p e) (round_about q f) h = omega arith

pub dist_self : (M k : ℕ) → dist M k k ≡ M
dist_self M k = rw (le-ltb k k (omega arith)) (omega arith)

fresh_full : full fresh ≡ true → ⊥
fresh_full h = cc

module _ (ds : List Desk) where
  pub full_range : (j : ℕ) → full (held ds j) ≡ true → (1 ≤ j) × (j ≤ length ds)
  full_range zero h = absurd (fresh_full h)
  full_range (suc i) h = go (dec_lt i (length ds))
    where
      go : Dec (i < length ds) → (1 ≤ suc i) × (suc i ≤ length ds)
      go (yes p) = omega arith
      go (no p) = absurd (fresh_full (rw (get_or-eq_default ds fresh {n = i} (omega arith)) at h))

  -- in a run of members
  data Run (i n : ℕ) : ℕ → Type 0 where
    none_in : ((j : ℕ) → i ≤ j → j < i + n → full (held ds j) ≡ false) → Run i n 0
    first_in : {k : ℕ} → i ≤ k → k < i + n → full (held ds k) ≡ true
        → ((j : ℕ) → i ≤ j → j < k → full (held ds j) ≡ false) → Run i n k

  run : (i n : ℕ) → Run i n (first_full ds (count_from i n))
  unfolding first_full
  run i zero = none_in (λ j a b. absurd (omega arith))
  run i (suc n) = go (full (held ds i)) refl (first_full ds (count_from (i + 1) n)) (run (i + 1) n)
    where
      here : full (held ds i) ≡ false → (j : ℕ) → Dec (i ≡ j) → (i < j → full (held ds j) ≡ false) → i ≤ j → full (held ds j) ≡ false
      here t j (yes e) f a = rw e at t
      here t j (no e) f a = f (omega arith)

      rest : (t : full (held ds i) ≡ false) (k : ℕ) → Run (i + 1) n k → Run i (suc n) k
      rest t k (none_in f) = none_in (λ j a b. here t j (ℕ_discrete i j) (λ c. f j (omega arith) (omega arith)) a)
      rest t k (first_in a b c f) =
          first_in {k = k} (omega arith) (omega arith) c (λ j d e. here t j (ℕ_discrete i j) (λ g. f j (omega arith) e) d)

      go : (b : Bool) → full (held ds i) ≡ b → (k : ℕ) → Run (i + 1) n k → Run i (suc n) (if b then i else k)
      go true t k x = first_in {k = i} (omega arith) (omega arith) t (λ j a b. absurd (omega arith))
      go false t k x = rest t k x

  pub skip : (a b : List ℕ) → first_full ds a ≡ 0 → first_full ds (a ++ b) ≡ first_full ds b
  unfolding first_full
  skip [] b h = refl
  skip (j ∷ a) b h = go (full (held ds j)) refl (skip a b)
    where
      go : (t : Bool) → full (held ds j) ≡ t → (first_full ds a ≡ 0 → first_full ds (a ++ b) ≡ first_full ds b)
          → (if t then j else first_full ds (a ++ b)) ≡ first_full ds b
      go true t f = let h' : j ≡ 0 = rw t at h in absurd (omega (arith, full_range j t))
      go false t f = f (rw t at h)

  pub stay : (a b : List ℕ) → 1 ≤ first_full ds a → first_full ds (a ++ b) ≡ first_full ds a
  unfolding first_full
  stay [] b h = absurd (omega arith)
  stay (j ∷ a) b h = go (full (held ds j)) refl (stay a b)
    where
      go : (t : Bool) → full (held ds j) ≡ t → (1 ≤ first_full ds a → first_full ds (a ++ b) ≡ first_full ds a)
          → (if t then j else first_full ds (a ++ b)) ≡ (if t then j else first_full ds a)
      go true t f = refl
      go false t f = f (rw t at h)

  -- what a turn chooses: nobody exactly when no desk is full; else the nearest after `last`, going round
  pub data Choice (last : ℕ) : ℕ → Type 0 where
    nobody : ((j : ℕ) → full (held ds j) ≡ false) → Choice last 0
    nearest : {k : ℕ} → 1 ≤ k → k ≤ length ds → full (held ds k) ≡ true
        → ((j : ℕ) → full (held ds j) ≡ true → dist (length ds) last k ≤ dist (length ds) last j) → Choice last k

  abbrev Empties : ℕ → ℕ → Type 0
  Empties low high = (i : ℕ) → low ≤ i → i < high → full (held ds i) ≡ false

  module _ (last : ℕ) (l : last ≤ length ds) where
    -- the first full desk after `last`
    ahead_first : {k : ℕ} → last < k → k ≤ length ds → full (held ds k) ≡ true → Empties (suc last) k → Choice last k
    ahead_first {k} a b t f = nearest {k = k} (omega arith) b t (λ j u. near j u (dec_lt last j) (dec_lt j k))
      where
        near : (j : ℕ) → full (held ds j) ≡ true → Dec (last < j) → Dec (j < k) → dist (length ds) last k ≤ dist (length ds) last j
        near j u (yes p) (yes q) = absurd (not_both (full (held ds j)) u (f j p q))
        near j u (yes p) (no q) = rw (lt-ltb last k a, lt-ltb last j p) (omega arith)
        near j u (no p) q = rw (lt-ltb last k a, le-ltb last j (omega arith)) (omega (arith, full_range j u))

    -- none after `last`: the first full desk of all
    round_first : {k : ℕ} → 1 ≤ k → k ≤ last → full (held ds k) ≡ true → Empties (suc last) (suc (length ds)) → Empties 1 k → Choice last k
    round_first {k} a b t e f = nearest {k = k} a (omega arith) t (λ j u. near j u (dec_lt last j) (dec_lt j k))
      where
        near : (j : ℕ) → full (held ds j) ≡ true → Dec (last < j) → Dec (j < k) → dist (length ds) last k ≤ dist (length ds) last j
        near j u (yes p) q = absurd (not_both (full (held ds j)) u (e j p (omega (arith, full_range j u))))
        near j u (no p) (yes q) = absurd (not_both (full (held ds j)) u (f j (full_range j u).0 q))
        near j u (no p) (no q) = rw (le-ltb last k b, le-ltb last j (omega arith)) (omega arith)

    none_anywhere : Empties (suc last) (suc (length ds)) → Empties 1 (suc last) → Choice last 0
    none_anywhere e f = nobody (λ j. go j (full (held ds j)) refl (dec_lt last j))
      where
        go : (j : ℕ) (b : Bool) → full (held ds j) ≡ b → Dec (last < j) → b ≡ false
        go j false t d = refl
        go j true t (yes p) = absurd (not_both (full (held ds j)) t (e j p (omega (arith, full_range j t))))
        go j true t (no p) = absurd (not_both (full (held ds j)) t (f j (full_range j t).0 (omega arith)))

    pub chosen : Choice last (choose ds last)
    chosen = go (first_full ds after) refl (run (suc last) (length ds - last))
      where
        after : List ℕ
        after = count_from (suc last) (length ds - last)

        second : Empties (suc last) (suc (length ds)) → (k : ℕ) → Run 1 last k → Choice last k
        second e k (none_in f) = none_anywhere e (λ i p q. f i p (omega arith))
        second e k (first_in a b t f) = round_first {k = k} a (omega arith) t e f

        go : (k : ℕ) → first_full ds after ≡ k → Run (suc last) (length ds - last) k → Choice last (choose ds last)
        go k e (none_in f) =
            rw (skip after (count_from 1 last) e) (second (λ i p q. f i p (omega arith)) (first_full ds (count_from 1 last)) (run 1 last))
        go k e (first_in a b t f) =
            rw (stay after (count_from 1 last) (rw e (omega arith)), e) (ahead_first {k = k} a (omega arith) t f)
