-- Demand 1: each call answers the number that 01's table says, and nothing lent is altered by a refusal.
use Prim.Native.Nat.{ℕ, ◌≤◌}
use mathlib.Core.Path.{◌≡◌, refl}
use mathlib.Core.List.{List}
use mathlib.Core.Bool.{Bool, true, false, not}
use native.Mathlib.Omega.{arith}
use lib.ListN.{length}
use lib.Dec.{ltb, eqb}
use Rattle.std.specs.Prelude.{if◌then◌else◌, Option, Some, None, Result, Ok, Err}
use Rattle.words.specs.Refusals.{number}
use Rattle.words.specs.declared.event.Event.{Event}
use Rattle.words.specs.Event.{step, event_at}
use Rattle.words.specs.Carry.{inside, carried, after}
use Rattle.words.specs.declared.refusal.Refusal.{Refusal}
use Rattle.words.specs.declared.refusal.Refusal.TheVariants.{ShortList, NoPool, Unfinished, Damaged, NoRoom, BadLog}
use Rattle.words.specs.declared.refusal.Refusal.TheVariants.{BadCapacity, ShortSlice, NoDesk, FullDesk, ShortMarks, NoEvent}
use Rattle.tree.specs.Header.{form_agrees, counts_agree, commit_of, capacity_of}
use Rattle.tree.specs.Check.{Walk, walk, marks_after}
use Rattle.change.specs.declared.Request.TheVariants.{Put, Delete}
use Rattle.change.specs.Check.{refuse, check_past_gate, walked}
use Rattle.change.specs.Calls as calls
use Rattle.change.proofs.ConditionsCalls.{format_numbers, recover_numbers, fetch_numbers, put_numbers, delete_numbers}
use Rattle.change.proofs.Conditions.{carry_numbers}
use Rattle.change.proofs.ConditionsCalls.{check_numbers}
use Rattle.change.proofs.Refused.{format_kept, recover_kept, serve_kept}
use Rattle.pool.specs.Demand1.{Demand1}

-- every refusal has a number
pub some_number : (why : Refusal) → 1 ≤ number why
some_number ShortList = omega arith
some_number NoPool = omega arith
some_number Unfinished = omega arith
some_number Damaged = omega arith
some_number NoRoom = omega arith
some_number BadLog = omega arith
some_number BadCapacity = omega arith
some_number ShortSlice = omega arith
some_number NoDesk = omega arith
some_number FullDesk = omega arith
some_number ShortMarks = omega arith
some_number NoEvent = omega arith

-- a check that is refused leaves the marks
marks_kept : (m g : List ℕ) (why : Refusal) → calls.check_answer m g ≡ Err why → calls.check_marks m g ≡ g
unfolding check_past_gate
marks_kept m g why =
    go (not (form_agrees m)) (not (eqb (commit_of m) 0)) (ltb (length g) (capacity_of m)) (not (counts_agree m)) (walk m g)
  where
    go : (a b d h : Bool) (w : Walk) → let x = if a then refuse g NoPool else if b then refuse g Unfinished
        else if d then refuse g ShortMarks else if h then refuse g Damaged else record { answer = Ok (walked w); marks = marks_after w } in
        x.answer ≡ Err why → x.marks ≡ g
    go true b d h w e = refl
    go false true d h w e = refl
    go false false true h w e = refl
    go false false false true w e = refl
    go false false false false w e = cc

-- an event that is refused leaves the pool
pool_kept : (m : List ℕ) (x : Option Event) (why : Refusal) → carried m x ≡ Err why → after m x ≡ m
pool_kept m None why r = refl
pool_kept m (Some x) why r = go (inside m x) r
  where
    go : (b : Bool) → ◌≡◌ {A = Result (Unit {0}) Refusal} (if b then Ok tt else Err NoEvent) (Err why) → (if b then step m x else m) ≡ m
    go true r = cc
    go false r = refl

pub demand_1 : Demand1
demand_1 = record {
  format = format_numbers;
  recover = recover_numbers;
  fetch = fetch_numbers;
  put = put_numbers;
  delete = delete_numbers;
  check = check_numbers;
  carry_out = carry_numbers;
  format_refused = λ m l capacity. format_kept (length l) (length m) capacity l;
  recover_refused = λ m l. recover_kept (length l) m l;
  put_refused = λ m l key value. serve_kept m l (Put key value);
  delete_refused = λ m l key. serve_kept m l (Delete key);
  serve_refused = serve_kept;
  check_refused = marks_kept;
  carry_out_refused = λ m l n. pool_kept m (event_at l n);
}
