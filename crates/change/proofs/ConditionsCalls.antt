-- Each call on a pool answers the number that its rows of 01's table say.
use Prim.Native.Nat.{ℕ, ◌+◌, ◌-◌, ◌*◌, ◌<◌}
use mathlib.Core.Path.{◌≡◌, refl}
use mathlib.Core.Logic.{inl, inr}
use mathlib.Core.List.{List, [], ◌∷◌}
use mathlib.Core.Bool.{Bool, true, false, not, ◌&&◌}
use mathlib.Core.Option.{Option, none, some}
use lib.ListN.{length}
use lib.Dec.{ltb, eqb}
use Rattle.std.specs.Prelude.{if◌then◌else◌, Ok}
use Rattle.words.specs.Pool.{height_most}
use Rattle.words.specs.declared.refusal.Refusal.{Refusal}
use Rattle.words.specs.declared.refusal.Refusal.TheVariants.{NoPool, Unfinished, Damaged, NoRoom, BadLog}
use Rattle.words.proofs.Fails.{row, not_tells, tells_less, fails_equal, fails_within}
use Rattle.words.proofs.Tests.{Tells, is, isnt}
use Rattle.node.specs.Lists.{has}
use Rattle.node.specs.View.{view, keys}
use Rattle.tree.specs.Header.{commit_of, capacity_of, used_of}
use Rattle.tree.specs.Path.{Way, failed, leaf, way_to}
use Rattle.tree.specs.Map.{find}
use Rattle.tree.specs.Check.{Walk, fault, going, walk}
use Rattle.change.specs.declared.Outcome.{Outcome}
use Rattle.change.specs.declared.Outcome.TheVariants as o
use Rattle.change.specs.declared.Recovery.{Recovery}
use Rattle.change.specs.declared.Recovery.TheVariants as r
use Rattle.change.specs.Answers.{outcome_says, format_says, recovery_says, check_says}
use Rattle.change.specs.Gate.{Planned, quiet, refused, outcome_of, at_leaf, past_gate}
use Rattle.change.specs.Steps.{full}
use Rattle.change.specs.Format.{format_past_list}
use Rattle.change.specs.Recover.{recover_past_form, log_agrees}
use Rattle.change.specs.Fetch.{fetch_at, said}
use Rattle.change.specs.Delete.{delete_at, delete}
use Rattle.change.specs.Put.{put_at, needed, put}
use Rattle.change.specs.Check.{Examined, refuse, check_past_gate, walked}
use Rattle.change.specs.Calls as calls
use Rattle.change.specs.Conditions as w
use Rattle.change.specs.Conditions.{Rows, Says}
use Rattle.change.proofs.Conditions.{fails_form}
use Rattle.change.proofs.Conditions.{fails_counts, tells_log}
use Rattle.change.proofs.Refused.{outcome_answered}
use Rattle.change.proofs.ConditionsPath.{lost, tells_damaged}
use Rattle.change.proofs.ConditionsRoom.{tells_no_room, tells_eight}

-- the number of what a call plans
abbrev by_outcome : Planned Outcome → ℕ
by_outcome p = (outcome_says p.answer).1

abbrev by_formatted : Planned ℕ → ℕ
by_formatted p = (format_says p.answer).1

abbrev by_recovery : Planned Recovery → ℕ
by_recovery p = (recovery_says p.answer).1

abbrev by_checked : Examined → ℕ
by_checked x = (check_says x.answer).1

pub format_numbers : (m l : List ℕ) (capacity : ℕ) → Says (w.format_rows m l capacity) (format_says (calls.format_answer m l capacity)).1
unfolding format_past_list
format_numbers m l capacity =
    let eighth : Rows = (length m < 72 + 16 * capacity, 8) ∷ [] in
    row 1 ((w.Outside 1 capacity 40000, 7) ∷ eighth) by_formatted _ _ (tells_less (length l) 372) refl
    (λ n. row 7 eighth by_formatted _ _ (not_tells (fails_within 1 capacity 40000)) refl
    (λ n. row 8 [] by_formatted _ _ (tells_less (length m) (72 + 16 * capacity)) refl (λ n. refl)))

pub recover_numbers : (m l : List ℕ) → Says (w.recover_rows m l) (recovery_says (calls.recover_answer m l)).1
unfolding recover_past_form
recover_numbers m l =
    let sixth : Rows = (w.BadLog m, 6) ∷ [] in
    row 1 ((w.NoPool m, 2) ∷ sixth) by_recovery _ _ (tells_less (length l) 372) refl
    (λ n. row 2 sixth by_recovery _ _ (not_tells (fails_form m)) refl (λ n. go (eqb (commit_of m) 0) (log_agrees m) _ (tells_log m) refl))
  where
    go : (b d : Bool) (p : Planned Recovery) → Tells (w.BadLog m) (not b && not d) → by_recovery p ≡ 0
        → Says ((w.BadLog m, 6) ∷ []) (by_recovery (if b then quiet r.Clean else if not d then refused BadLog else p))
    go true d p (isnt n) e = inr (n, refl)
    go false true p (isnt n) e = inr (n, e)
    go false false p (is c) e = inl (c, refl)

-- 2 and 3, then other rows
gate : (m : List ℕ) (rows : Rows) {P : Type 0} (number : P → ℕ) (refuse : Refusal → P) (y : P) → number (refuse NoPool) ≡ 2
    → number (refuse Unfinished) ≡ 3 → Says rows (number y)
    → Says ((w.NoPool m, 2) ∷ (w.Unfinished m, 3) ∷ rows) (number (past_gate refuse m y))
gate m rows number refuse y e f h =
    row 2 ((w.Unfinished m, 3) ∷ rows) number _ _ (not_tells (fails_form m)) e
    (λ n. row 3 rows number _ _ (not_tells (fails_equal (commit_of m) 0)) f (λ n. h))

-- 4, then the rows of what is done at the leaf
leaf_rows : (m : List ℕ) (key : ℕ) (body : ℕ → List ℕ → Planned Outcome) (rows : Rows)
    → ((k : ℕ) (above : List ℕ) → way_to m key ≡ leaf k above → Says rows (by_outcome (body k above)))
    → Says ((w.Damaged m key, 4) ∷ rows) (by_outcome (at_leaf body (way_to m key)))
leaf_rows m key body rows h = go (way_to m key) refl (tells_damaged m key)
  where
    go : (x : Way) → way_to m key ≡ x → Tells (w.Damaged m key) (lost x)
        → Says ((w.Damaged m key, 4) ∷ rows) (by_outcome (at_leaf body x))
    go (failed node) e (is d) = inl (d, refl)
    go (leaf k above) e (isnt n) = inr (n, h k above e)

-- 2, 3 and 4, then those
key_rows : (m : List ℕ) (key : ℕ) (body : ℕ → List ℕ → Planned Outcome) (rows : Rows)
    → ((k : ℕ) (above : List ℕ) → way_to m key ≡ leaf k above → Says rows (by_outcome (body k above)))
    → Says ((w.NoPool m, 2) ∷ (w.Unfinished m, 3) ∷ (w.Damaged m key, 4) ∷ rows)
    (by_outcome (past_gate refused m (at_leaf body (way_to m key))))
key_rows m key body rows h = gate m ((w.Damaged m key, 4) ∷ rows) by_outcome refused _ refl refl (leaf_rows m key body rows h)

pub fetch_numbers : (m : List ℕ) (key : ℕ) → Says (w.fetch_rows m key) (outcome_says (calls.fetch_answer m key)).1
fetch_numbers m key = key_rows m key (fetch_at m key) [] (λ k above e. found (find key (view m k).records))
  where
    found : (v : Option ℕ) → (outcome_says (Ok (said v))).1 ≡ 0
    found none = refl
    found (some v) = refl

put_at_leaf : (m : List ℕ) (key value k : ℕ) (above : List ℕ) → way_to m key ≡ leaf k above
    → Says ((w.NoRoom m key, 5) ∷ (w.SplitsEight m key, 4) ∷ []) (by_outcome (put_at m key value k above))
unfolding put_at
put_at_leaf m key value k above e =
    go (has key (keys (view m k).records)) (full (view m k)) (ltb (capacity_of m - used_of m) (needed m (k ∷ above)))
    (ltb height_most (needed m (k ∷ above))) _ _ _ refl refl refl (tells_no_room m key e) (tells_eight m key e)
  where
    go : (h f a b : Bool) (x y z : Planned Outcome) → by_outcome x ≡ 0 → by_outcome y ≡ 0 → by_outcome z ≡ 0
        → Tells (w.NoRoom m key) (not h && f && a) → Tells (w.SplitsEight m key) (not h && f && b)
        → Says ((w.NoRoom m key, 5) ∷ (w.SplitsEight m key, 4) ∷ [])
        (by_outcome (if h then x else if not f then y else if a then refused NoRoom else if b then refused Damaged else z))
    go true f a b x y z p q s (isnt n) (isnt t) = inr (n, inr (t, p))
    go false false a b x y z p q s (isnt n) (isnt t) = inr (n, inr (t, q))
    go false true true b x y z p q s (is c) t = inl (c, refl)
    go false true false true x y z p q s (isnt n) (is c) = inr (n, inl (c, refl))
    go false true false false x y z p q s (isnt n) (isnt t) = inr (n, inr (t, s))

pub put_numbers : (m l : List ℕ) (key value : ℕ) → Says (w.put_rows m l key) (outcome_says (outcome_of (calls.put_answer m l key value))).1
put_numbers m l key value =
    let at_leaf_rows : Rows = (w.NoRoom m key, 5) ∷ (w.SplitsEight m key, 4) ∷ [] in
    rw (outcome_answered (put (length l) m key value))
    (row 1 ((w.NoPool m, 2) ∷ (w.Unfinished m, 3) ∷ (w.Damaged m key, 4) ∷ at_leaf_rows) by_outcome _ _ (tells_less (length l) 372) refl
    (λ n. key_rows m key (put_at m key value) at_leaf_rows (put_at_leaf m key value)))

pub delete_numbers : (m l : List ℕ) (key : ℕ) → Says (w.delete_rows m l key) (outcome_says (outcome_of (calls.delete_answer m l key))).1
unfolding delete_at
delete_numbers m l key =
    rw (outcome_answered (delete (length l) m key))
    (row 1 (w.fetch_rows m key) by_outcome _ _ (tells_less (length l) 372) refl
    (λ n. key_rows m key (delete_at m key) [] (λ k above e. go (has key (keys (view m k).records)) _ refl)))
  where
    go : (h : Bool) (x : Planned Outcome) → by_outcome x ≡ 0 → by_outcome (if h then x else quiet o.Absent) ≡ 0
    go true x e = e
    go false x e = refl

pub check_numbers : (m marks : List ℕ) → Says (w.check_rows m marks) (check_says (calls.check_answer m marks)).1
unfolding check_past_gate
check_numbers m marks =
    gate m ((length marks < capacity_of m, 11) ∷ (w.BadCounts m, 4) ∷ []) by_checked (refuse marks) _ refl refl
    (row 11 ((w.BadCounts m, 4) ∷ []) by_checked _ _ (tells_less (length marks) (capacity_of m)) refl
    (λ n. row 4 [] by_checked _ _ (not_tells (fails_counts m)) refl (λ n. ended (walk m marks))))
  where
    ended : (x : Walk) → (check_says (Ok (walked x))).1 ≡ 0
    ended (fault k g) = refl
    ended (going s) = refl
