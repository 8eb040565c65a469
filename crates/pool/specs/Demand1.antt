-- Demand 1: "No lent memory, of any length or content, and no request makes a call reach outside it, trap or run on. What document 01's
-- table names as no pool, unfinished, damaged or too small is refused with its number, and nothing lent is altered, save that a turn
-- answers a refused request and empties its desk. No call relies on an earlier check." That a call stays inside, does not trap and ends
-- is what the toolchain proves of every function; that it relies on no check is that it has no `requires`. The rest is here, for every
-- memory, list and marks; of submit and turn it is said in the crate of the desks.
use Rattle.std.specs.Prelude.{ℕ, ◌≡◌, List, Err}
use Rattle.words.specs.Event.{event_at}
use Rattle.words.specs.Answers.{carried_says}
use Rattle.words.specs.Carry.{carried, after}
use Rattle.words.specs.declared.refusal.Refusal.{Refusal}
use Rattle.change.specs.declared.Request.{Request}
use Rattle.change.specs.Answers.{outcome_says, format_says, recovery_says, check_says}
use Rattle.change.specs.Gate.{outcome_of, events_of}
use Rattle.change.specs.Calls as calls
use Rattle.change.specs.Conditions.{Says, format_rows, recover_rows, fetch_rows, put_rows, delete_rows, check_rows, carry_rows}

pub record Demand1 : Type 0 where
  -- the number that each call answers is that of the first of its rows of 01's table whose condition holds, and 0 where none does
  pub format : (m l : List ℕ) (capacity : ℕ) → Says (format_rows m l capacity) (format_says (calls.format_answer m l capacity)).1
  pub recover : (m l : List ℕ) → Says (recover_rows m l) (recovery_says (calls.recover_answer m l)).1
  pub fetch : (m : List ℕ) (key : ℕ) → Says (fetch_rows m key) (outcome_says (calls.fetch_answer m key)).1
  pub put : (m l : List ℕ) (key value : ℕ) → Says (put_rows m l key) (outcome_says (outcome_of (calls.put_answer m l key value))).1
  pub delete : (m l : List ℕ) (key : ℕ) → Says (delete_rows m l key) (outcome_says (outcome_of (calls.delete_answer m l key))).1
  pub check : (m g : List ℕ) → Says (check_rows m g) (check_says (calls.check_answer m g)).1
  pub carry_out : (m l : List ℕ) (n : ℕ) → Says (carry_rows m l n) (carried_says (carried m (event_at l n))).1
  -- "Each leaves everything lent unchanged and counts 0 events."
  pub format_refused : (m l : List ℕ) (capacity : ℕ) (why : Refusal) → calls.format_answer m l capacity ≡ Err why
      → calls.format_list m l capacity ≡ l
  pub recover_refused : (m l : List ℕ) (why : Refusal) → calls.recover_answer m l ≡ Err why → calls.recover_list m l ≡ l
  pub put_refused : (m l : List ℕ) (key value : ℕ) (why : Refusal) → calls.put_answer m l key value ≡ Err why
      → (events_of (calls.put_answer m l key value) ≡ 0) × (calls.put_list m l key value ≡ l)
  pub delete_refused : (m l : List ℕ) (key : ℕ) (why : Refusal) → calls.delete_answer m l key ≡ Err why
      → (events_of (calls.delete_answer m l key) ≡ 0) × (calls.delete_list m l key ≡ l)
  pub serve_refused : (m l : List ℕ) (q : Request) (why : Refusal) → calls.serve_answer m l q ≡ Err why
      → (events_of (calls.serve_answer m l q) ≡ 0) × (calls.serve_list m l q ≡ l)
  pub check_refused : (m g : List ℕ) (why : Refusal) → calls.check_answer m g ≡ Err why → calls.check_marks m g ≡ g
  pub carry_out_refused : (m l : List ℕ) (n : ℕ) (why : Refusal) → carried m (event_at l n) ≡ Err why
      → after m (event_at l n) ≡ m
