-- What a list of records holds under a key: in parts, and after a record is put in, taken out or replaced.
use Prim.Native.Nat.{ℕ, ◌≤◌, ◌<◌}
use mathlib.Core.Path.{◌≡◌, refl, sym, ◌∙◌}
use mathlib.Core.Logic.{◌⊎◌, inl, inr}
use mathlib.Core.List.{List, [], ◌∷◌, ◌++◌}
use mathlib.Core.Bool.{Bool, true, false, ◌||◌}
use mathlib.Core.Option.{Option, none, some}
use native.Mathlib.Omega.{arith}
use lib.Dec.{ltb, eqb}
use lib.ListN.{get_or, set}
use borrow.Author.Tests.{le-ltb, ne_eqb, eqb-true, ltb-true}
use Rattle.std.specs.Prelude.{if◌then◌else◌}
use Rattle.words.proofs.Tests.{differ}
use Rattle.node.specs.Lists.{insert, remove, has, rising, below}
use Rattle.node.specs.View.{Record, keys}
use Rattle.node.proofs.Every.{every_has}
use Rattle.node.proofs.Ranks.{rising_cons}
use Rattle.tree.specs.Map.{find}
use Rattle.tree.proofs.Keys.{Rise, rise_more, rank_here, has_later}

-- the first, or else the second
abbrev pub or_else : Option ℕ → Option ℕ → Option ℕ
or_else none o = o
or_else (some v) o = some v

or_none : (o : Option ℕ) → or_else o none ≡ o
or_none none = refl
or_none (some v) = refl

pub find_append : (q : ℕ) (a b : List Record) → find q (a ++ b) ≡ or_else (find q a) (find q b)
unfolding find
find_append q [] b = refl
find_append q (e ∷ a) b = go (eqb q e.0) (find_append q a b)
  where
    go : (t : Bool) → find q (a ++ b) ≡ or_else (find q a) (find q b)
        → (if t then some e.1 else find q (a ++ b)) ≡ or_else (if t then some e.1 else find q a) (find q b)
    go true h = refl
    go false h = h

pub find_skip : (q : ℕ) (a b : List Record) → find q a ≡ none → find q (a ++ b) ≡ find q b
find_skip q a b h = rw (find_append q a b, h)

-- in the middle of what does not hold it
pub find_middle : (q : ℕ) (a x b : List Record) → find q a ≡ none → find q b ≡ none → find q (a ++ (x ++ b)) ≡ find q x
find_middle q a x b h k = rw (find_append q a (x ++ b), find_append q x b, h, k) (or_none (find q x))

-- only the key named changes, in the middle and so in the whole
pub find_changed : (key : ℕ) (o : Option ℕ) (a x y b : List Record) → find key a ≡ none → find key b ≡ none
    → ((q : ℕ) → find q y ≡ (if eqb q key then o else find q x))
    → (q : ℕ) → find q (a ++ (y ++ b)) ≡ (if eqb q key then o else find q (a ++ (x ++ b)))
find_changed key o a x y b h k f q = go (eqb q key) refl
  where
    go : (t : Bool) → eqb q key ≡ t → find q (a ++ (y ++ b)) ≡ (if eqb q key then o else find q (a ++ (x ++ b)))
    go true t =
        let e : q ≡ key = eqb-true q key t in
        let f' : find q y ≡ o = f q ∙ rw t in
        rw t (find_middle q a y b (rw e h) (rw e k) ∙ f')
    go false t =
        let f' : find q y ≡ find q x = f q ∙ rw t in
        rw (t, find_append q a (y ++ b), find_append q y b, f', find_append q a (x ++ b), find_append q x b)

-- a key outside the cover is not held
pub rise_miss : {lo hi : ℕ} (q : ℕ) (rs : List Record) → Rise lo (keys rs) hi → (q < lo) ⊎ (hi ≤ q) → find q rs ≡ none
unfolding find
rise_miss q [] r o = refl
rise_miss q (e ∷ rs) (rise_more p p' r) (inl o) = rw (ne_eqb q e.0 (omega arith), rise_miss q rs r (inl (omega arith)))
rise_miss q (e ∷ rs) (rise_more p p' r) (inr o) = rw (ne_eqb q e.0 (omega arith), rise_miss q rs r (inr o))

-- a key that is there is held, with the value at its rank; one that is not is not
pub find_absent : (key : ℕ) (rs : List Record) → has key (keys rs) ≡ false → find key rs ≡ none
unfolding has find
find_absent key [] h = refl
find_absent key (e ∷ rs) h = go (eqb key e.0) (find_absent key rs) h
  where
    go : (t : Bool) → (has key (keys rs) ≡ false → find key rs ≡ none) → (t || has key (keys rs)) ≡ false
        → (if t then some e.1 else find key rs) ≡ none
    go true f k = let z : ◌≡◌ {A = ℕ} 0 1 = cc in absurd (omega arith)
    go false f k = f k

pub find_present : (key : ℕ) (rs : List Record) → rising (keys rs) ≡ true → has key (keys rs) ≡ true
    → find key rs ≡ some (get_or rs (below key (keys rs)) (0, 0)).1
unfolding find below has
find_present key [] r h = absurd (differ (sym h))
find_present key (e ∷ rs) r h = go (λ g. find_present key rs (rising_cons e.0 (keys rs) r).1 g) (eqb key e.0) refl
  where
    go : (has key (keys rs) ≡ true → find key rs ≡ some (get_or rs (below key (keys rs)) (0, 0)).1) → (b : Bool) → eqb key e.0 ≡ b
        → find key (e ∷ rs) ≡ some (get_or (e ∷ rs) (below key (keys (e ∷ rs))) (0, 0)).1
    go further true t = rw (t, le-ltb e.0 key (omega (arith, eqb-true key e.0 t)))
    go further false t =
        let g : has key (keys rs) ≡ true = rw t at h in
        rw (t, every_has (λ x. ltb e.0 x) key (keys rs) (rising_cons e.0 (keys rs) r).0 g) (further g)

-- two tests in either order, where the keys differ; and a test that an earlier one has passed
swap : (q key k v : ℕ) (o r : Option ℕ) → k < key
    → (if eqb q k then some v else (if eqb q key then o else r)) ≡ (if eqb q key then o else (if eqb q k then some v else r))
swap q key k v o r l = go (eqb q k) refl
  where
    go : (s : Bool) → eqb q k ≡ s
        → (if eqb q k then some v else (if eqb q key then o else r)) ≡ (if eqb q key then o else (if eqb q k then some v else r))
    go true s = let i : q ≡ k = eqb-true q k s in rw (s, ne_eqb q key (omega arith))
    go false s = rw s

pass : (q key k v : ℕ) (o r : Option ℕ) → key ≡ k
    → (if eqb q key then o else r) ≡ (if eqb q key then o else (if eqb q k then some v else r))
pass q key k v o r i = rw (← i) (go (eqb q key))
  where
    go : (s : Bool) → (if s then o else r) ≡ (if s then o else (if s then some v else r))
    go true = refl
    go false = refl

-- after a change of one record
pub find_insert : (key v : ℕ) (rs : List Record) (q : ℕ)
    → find q (insert (below key (keys rs)) (key, v) rs) ≡ (if eqb q key then some v else find q rs)
unfolding below find
find_insert key v [] q = refl
find_insert key v (e ∷ rs) q = go (find_insert key v rs q) (ltb e.0 key) refl
  where
    go : find q (insert (below key (keys rs)) (key, v) rs) ≡ (if eqb q key then some v else find q rs) → (t : Bool) → ltb e.0 key ≡ t
        → find q (insert (below key (keys (e ∷ rs))) (key, v) (e ∷ rs)) ≡ (if eqb q key then some v else find q (e ∷ rs))
    go f false t = rw t
    go f true t = rw (t, f) (swap q key e.0 e.1 (some v) (find q rs) (ltb-true e.0 key t))

module _ (key : ℕ) where
  pub find_set : {lo hi : ℕ} (v : ℕ) (rs : List Record) → Rise lo (keys rs) hi → has key (keys rs) ≡ true → (q : ℕ)
      → find q (set rs (below key (keys rs)) (key, v)) ≡ (if eqb q key then some v else find q rs)
  unfolding below find
  find_set v [] g h q = unfold has in (let z : ◌≡◌ {A = ℕ} 0 1 = cc in absurd (omega arith))
  find_set v (e ∷ rs) (rise_more p p' g) h q = go (λ l. find_set v rs g (has_later key e rs l h) q) (ltb e.0 key) refl
    where
      go : (e.0 < key → find q (set rs (below key (keys rs)) (key, v)) ≡ (if eqb q key then some v else find q rs))
          → (t : Bool) → ltb e.0 key ≡ t
          → find q (set (e ∷ rs) (below key (keys (e ∷ rs))) (key, v)) ≡ (if eqb q key then some v else find q (e ∷ rs))
      go f true t = let l : e.0 < key = ltb-true e.0 key t in rw (t, f l) (swap q key e.0 e.1 (some v) (find q rs) l)
      go f false t = rw t (pass q key e.0 e.1 (some v) (find q rs) (rank_here key e rs (rise_more p p' g) h t))

  pub find_remove : {lo hi : ℕ} (rs : List Record) → Rise lo (keys rs) hi → has key (keys rs) ≡ true → (q : ℕ)
      → find q (remove (below key (keys rs)) rs) ≡ (if eqb q key then none else find q rs)
  unfolding below find
  find_remove [] g h q = unfold has in (let z : ◌≡◌ {A = ℕ} 0 1 = cc in absurd (omega arith))
  find_remove (e ∷ rs) (rise_more p p' g) h q = go (λ l. find_remove rs g (has_later key e rs l h) q) (ltb e.0 key) refl
    where
      without : key ≡ e.0 → (s : Bool) → eqb q key ≡ s → find q rs ≡ (if s then none else find q rs)
      without i true s = let j : q ≡ key = eqb-true q key s in rise_miss q rs g (inl (omega arith))
      without i false s = refl

      go : (e.0 < key → find q (remove (below key (keys rs)) rs) ≡ (if eqb q key then none else find q rs))
          → (t : Bool) → ltb e.0 key ≡ t
          → find q (remove (below key (keys (e ∷ rs))) (e ∷ rs)) ≡ (if eqb q key then none else find q (e ∷ rs))
      go f true t = let l : e.0 < key = ltb-true e.0 key t in rw (t, f l) (swap q key e.0 e.1 none (find q rs) l)
      go f false t =
          let i : key ≡ e.0 = rank_here key e rs (rise_more p p' g) h t in
          rw t (without i (eqb q key) refl ∙ pass q key e.0 e.1 none (find q rs) i)
