-- The conditions of 01's table that look at the lent words alone: each is what the test of its definition tells.
use Prim.Native.Nat.{ℕ, zero, suc, ◌+◌, ◌-◌, ◌*◌, ◌/◌, ◌≤◌, ◌<◌}
use mathlib.Core.Path.{◌≡◌, refl}
use mathlib.Core.Logic.{◌⊎◌, inl, inr}
use mathlib.Core.List.{List}
use mathlib.Core.Bool.{Bool, true, false, not, ◌&&◌}
use native.Mathlib.Omega.{arith}
use lib.ListN.{length}
use lib.Dec.{eqb}
use Rattle.std.specs.Prelude.{if◌then◌else◌, Option, Some, None, Ok, Err}
use Rattle.words.specs.declared.event.Event.{Event}
use Rattle.words.specs.declared.event.Event.TheVariants.{Store as store, Flush as flush, Fence as fence}
use Rattle.words.specs.Event.{at, event_of, event_at}
use Rattle.words.specs.Answers.{carried_says}
use Rattle.words.specs.Carry.{inside, carried}
use Rattle.words.specs.declared.refusal.Refusal.TheVariants.{NoEvent}
use Rattle.words.proofs.Fails.{Fails, breaks, keeps, fails_and, fails_by, fails_equal, fails_less, fails_most, fails_within, not_fails}
use Rattle.words.proofs.Fails.{not_out, not_tells, out_in, tells_most}
use Rattle.words.proofs.Tests.{Tells, is, isnt, tells_equal, tells_and}
use Rattle.tree.specs.Header.{form_agrees, counts_agree, commit_of, total_in}
use Rattle.change.specs.Recover.{log_pairs, may_store, all_may_store, log_agrees}
use Rattle.change.specs.Conditions as w
use Rattle.change.specs.Conditions.{Says}

module _ (m : List ℕ) where
  abbrev SomeForm : Type 0
  SomeForm = ((((((length m < 88) ⊎ (¬ (at m 0 ≡ 1))) ⊎ w.Outside 1 (at m 4) 40000) ⊎ (¬ (at m 1 ≡ 72 + 16 * at m 4)))
      ⊎ (¬ (at m 2 ≡ 8))) ⊎ (¬ (at m 3 ≡ 72))) ⊎ (length m < at m 1)

  no_pool : SomeForm → w.NoPool m
  no_pool (inl (inl (inl (inl (inl (inl h)))))) = w.short h
  no_pool (inl (inl (inl (inl (inl (inr h)))))) = w.form h
  no_pool (inl (inl (inl (inl (inr h))))) = w.capacity_rule h
  no_pool (inl (inl (inl (inr h)))) = w.total_rule h
  no_pool (inl (inl (inr h))) = w.log_rule h
  no_pool (inl (inr h)) = w.nodes_rule h
  no_pool (inr h) = w.under h

  some_form : w.NoPool m → SomeForm
  some_form (w.short h) = inl (inl (inl (inl (inl (inl h)))))
  some_form (w.form h) = inl (inl (inl (inl (inl (inr h)))))
  some_form (w.capacity_rule h) = inl (inl (inl (inl (inr h))))
  some_form (w.total_rule h) = inl (inl (inl (inr h)))
  some_form (w.log_rule h) = inl (inl (inr h))
  some_form (w.nodes_rule h) = inl (inr h)
  some_form (w.under h) = inr h

  -- 2
  pub fails_form : Fails (w.NoPool m) (form_agrees m)
  unfolding form_agrees
  fails_form = fails_by no_pool some_form
      (fails_and (fails_and (fails_and (fails_and (fails_and (fails_and
      (fails_most 88 (length m)) (fails_equal (at m 0) 1)) (fails_within 1 (at m 4) 40000))
      (fails_equal (at m 1) (72 + 16 * at m 4))) (fails_equal (at m 2) 8)) (fails_equal (at m 3) 72)) (fails_most (at m 1) (length m)))

  abbrev SomeCount : Type 0
  SomeCount = (w.Outside 1 (at m 5) (at m 4) ⊎ w.Outside 1 (at m 6) (at m 5)) ⊎ w.Outside 1 (at m 7) 8

  bad_counts : SomeCount → w.BadCounts m
  bad_counts (inl (inl h)) = w.used h
  bad_counts (inl (inr h)) = w.root h
  bad_counts (inr h) = w.height h

  some_count : w.BadCounts m → SomeCount
  some_count (w.used h) = inl (inl h)
  some_count (w.root h) = inl (inr h)
  some_count (w.height h) = inr h

  -- 4, the header part
  pub fails_counts : Fails (w.BadCounts m) (counts_agree m)
  unfolding counts_agree
  fails_counts = fails_by bad_counts some_count
      (fails_and (fails_and (fails_within 1 (at m 5) (at m 4)) (fails_within 1 (at m 6) (at m 5))) (fails_within 1 (at m 7) 8))

-- 6: the address of a pair, of each pair, and the log
abbrev pub BadAddress : ℕ → ℕ → Type 0
BadAddress total a = ((a < 5) ⊎ ((8 ≤ a) × (a ≤ 71))) ⊎ (total ≤ a)

pub fails_address : (total a : ℕ) → Fails (BadAddress total a) (may_store total a)
fails_address total a =
    fails_and (fails_and (fails_most 5 a) (not_fails (tells_and (tells_most 8 a) (tells_most a 71)))) (fails_less a total)

abbrev BadPair : List ℕ → ℕ → ℕ → Type 0
BadPair m n x = (i : ℕ) × (i < n) × BadAddress (total_in m) (at m (x + 2 * i))

moved : (m : List ℕ) {x y : ℕ} → x ≡ y → BadAddress (total_in m) (at m x) → BadAddress (total_in m) (at m y)
moved m e b = rw (← e) b

fails_pairs : (m : List ℕ) (n x : ℕ) → Fails (BadPair m n x) (all_may_store (total_in m) (log_pairs n x m))
unfolding all_may_store log_pairs
fails_pairs m zero x = keeps (λ p. omega (arith, p.1))
fails_pairs m (suc n) x =
    fails_by to from (fails_and (fails_address (total_in m) (at m x)) (fails_pairs m n (x + 2)))
  where
    to : BadAddress (total_in m) (at m x) ⊎ BadPair m n (x + 2) → BadPair m (suc n) x
    to (inl b) = (0, omega arith, moved m (omega arith) b)
    to (inr p) = (suc p.0, omega (arith, p.1), moved m (omega arith) p.2)

    from : BadPair m (suc n) x → BadAddress (total_in m) (at m x) ⊎ BadPair m n (x + 2)
    from (zero, h, b) = inl (moved m (omega arith) b)
    from (suc i, h, b) = inr (i, omega arith, moved m (omega arith) b)

pub fails_log : (m : List ℕ) → Fails (w.BadLog m) (log_agrees m)
unfolding log_agrees
fails_log m = fails_by to from (fails_and (fails_most (at m 8) 31) (fails_pairs m (at m 8) 9))
  where
    to : (31 < at m 8) ⊎ BadPair m (at m 8) 9 → w.BadLog m
    to (inl h) = w.many h
    to (inr (i, h, inl (inl l))) = w.low i h l
    to (inr (i, h, inl (inr l))) = w.in_log i h l.0 l.1
    to (inr (i, h, inr l)) = w.high i h l

    from : w.BadLog m → (31 < at m 8) ⊎ BadPair m (at m 8) 9
    from (w.many h) = inl h
    from (w.low i h l) = inr (i, h, inl (inl l))
    from (w.in_log i h l k) = inr (i, h, inl (inr (l, k)))
    from (w.high i h l) = inr (i, h, inr l)

-- with commit word 0 no pair is looked at
pub tells_log : (m : List ℕ) → Tells (w.BadLog m) (not (eqb (commit_of m) 0) && not (log_agrees m))
tells_log m = go (tells_equal (at m 8) 0) (not_tells (fails_log m))
  where
    go : {a b : Bool} → Tells (at m 8 ≡ 0) a → Tells (w.BadLog m) b → Tells (w.BadLog m) (not a && b)
    go (is e) t = isnt clean
      where
        clean : w.BadLog m → ⊥
        clean (w.many h) = omega arith
        clean (w.low i h l) = omega arith
        clean (w.in_log i h l k) = omega arith
        clean (w.high i h l) = omega arith
    go (isnt n) t = t

-- 12: an event that can be carried out
abbrev pub carries : List ℕ → Option Event → Bool
carries m None = false
carries m (Some e) = inside m e

module _ (m l : List ℕ) (n : ℕ) where
  abbrev kind : ℕ
  kind = w.kind_at l n

  abbrev word : ℕ
  word = w.number_at l n

  -- what is left of 12 for an event that is in the list, by its kind
  module _ (some_event : 1 ≤ n) (in_List : 2 * n ≤ length l) where
    rest : (P : Type 0) → (w.Outside 1 kind 3 → P) → (kind ≡ 1 → length m ≤ word → P) → (kind ≡ 2 → length m ≤ 8 * word → P)
        → w.NoEvent m l n → P
    rest P a b c (w.none (inl z)) = absurd (omega arith)
    rest P a b c (w.none (inr h)) = absurd (omega arith)
    rest P a b c (w.kind h) = a h
    rest P a b c (w.word e h) = b e h
    rest P a b c (w.line e h) = c e h

    fails_kind : Fails (w.NoEvent m l n) (carries m (event_of kind word (at l (2 * n - 1))))
    fails_kind = go (tells_equal kind 1) (tells_equal kind 2) (tells_equal kind 3)
      where
        go : {a b c : Bool} → Tells (kind ≡ 1) a → Tells (kind ≡ 2) b → Tells (kind ≡ 3) c
            → Fails (w.NoEvent m l n) (carries m (if a then Some (store word (at l (2 * n - 1)))
            else if b then Some (flush word) else if c then Some fence else None))
        go (is p) b c =
            fails_by (w.word p) (rest (length m ≤ word) (λ o. absurd (out_in o (omega arith) (omega arith))) (λ e h. h)
            (λ e h. absurd (omega arith))) (fails_less word (length m))
        go (isnt p) (is q) c =
            fails_by (λ h. w.line q (omega arith)) (rest (length m ≤ word * 8) (λ o. absurd (out_in o (omega arith) (omega arith)))
            (λ e h. absurd (p e)) (λ e h. omega arith)) (fails_less (word * 8) (length m))
        go (isnt p) (isnt q) (is r) = keeps (rest ⊥ (λ o. out_in o (omega arith) (omega arith)) (λ e h. p e) (λ e h. q e))
        go (isnt p) (isnt q) (isnt r) = breaks (w.kind (outside kind p q r))
          where
            outside : (k : ℕ) → ¬ (k ≡ 1) → ¬ (k ≡ 2) → ¬ (k ≡ 3) → w.Outside 1 k 3
            outside zero p q r = inl (omega arith)
            outside (suc k) p q r = inr (omega arith)

  pub fails_event : Fails (w.NoEvent m l n) (carries m (event_at l n))
  fails_event = go (fails_within 1 n (length l / 2))
    where
      go : {a : Bool} → Fails (w.Outside 1 n (length l / 2)) a
          → Fails (w.NoEvent m l n) (carries m (if a then event_of kind word (at l (2 * n - 1)) else None))
      go (breaks (inl h)) = breaks (w.none (inl (omega arith)))
      go (breaks (inr h)) = breaks (w.none (inr (omega arith)))
      go (keeps p) = let i = not_out 1 n (length l / 2) p in fails_kind i.0 (omega (arith, i.1))

-- so carrying out answers the number that its rows say
pub carry_numbers : (m l : List ℕ) (n : ℕ) → Says (w.carry_rows m l n) (carried_says (carried m (event_at l n))).1
carry_numbers m l n = go (event_at l n) (fails_event m l n)
  where
    go : (x : Option Event) → Fails (w.NoEvent m l n) (carries m x) → Says (w.carry_rows m l n) (carried_says (carried m x)).1
    go None (breaks c) = inl (c, refl)
    go (Some e) f = at_slice (inside m e) f
      where
        at_slice : (b : Bool) → Fails (w.NoEvent m l n) b
            → Says (w.carry_rows m l n) (carried_says (if b then Ok tt else Err NoEvent)).1
        at_slice true (keeps h) = inr (h, refl)
        at_slice false (breaks c) = inl (c, refl)
