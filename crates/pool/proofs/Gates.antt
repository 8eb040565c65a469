-- The refusals that stand before every body, test by test.
use Prim.Native.Nat.{ℕ}
use mathlib.Core.Path.{◌≡◌, refl, sym, ◌∙◌, ap}
use mathlib.Core.List.{List}
use mathlib.Core.Bool.{Bool, true, false, not}
use lib.Dec.{ltb, eqb}
use borrow.Author.Tests.{eq-eqb, eqb-true, not-false}
use Rattle.std.specs.Prelude.{if◌then◌else◌, Result, Ok, Err}
use Rattle.words.specs.Pool.{list_words}
use Rattle.words.specs.declared.refusal.Refusal.{Refusal}
use Rattle.words.specs.declared.refusal.Refusal.TheVariants.{ShortList, NoPool, Unfinished}
use Rattle.tree.specs.Header.{commit_of, form_agrees}
use Rattle.tree.specs.Path.{way_to}
use Rattle.tree.specs.inner.Descended.{above_of}
use Rattle.tree.specs.declared.descend.Seat.{Seat}
use Rattle.tree.proofs.Leaves.{AtLeaf, at_leaf as leaf_found}
use Rattle.change.specs.declared.Outcome.{Outcome}
use Rattle.change.specs.Gate.{Planned, refused, past_list, past_form, past_gate, at_leaf}
use Rattle.pool.specs.inner.Passing.{Admitted, Gated}

-- what the tests of a list and of a pool answer
abbrev Passing : Type 0
Passing = Result (Unit {0}) Refusal

abbrev pub list_test : ℕ → Passing
list_test room = past_list Err room (Ok tt)

abbrev pub form_test : List ℕ → Passing
form_test m = past_form Err m (Ok tt)

abbrev pub gate_test : List ℕ → Passing
gate_test m = past_gate Err m (Ok tt)

-- what was passed holds
test_holds : (b : Bool) (why : Refusal) (r : Passing) {u : Unit {0}} → Ok u ≡ (if b then Err why else r) → (b ≡ false) × (Ok u ≡ r)
test_holds true why r e = cc
test_holds false why r e = (refl, e)

pub a_pool : (m : List ℕ) {u : Unit {0}} → Ok u ≡ form_test m → form_agrees m ≡ true
a_pool m e = not-false (form_agrees m) (test_holds (not (form_agrees m)) NoPool (Ok tt) e).0

pub whole_pool : (m : List ℕ) {u : Unit {0}} → Ok u ≡ gate_test m → (form_agrees m ≡ true) × (commit_of m ≡ 0)
whole_pool m e =
    let form = test_holds (not (form_agrees m)) NoPool _ e in
    let clean = test_holds (not (eqb (commit_of m) 0)) Unfinished (Ok tt) form.1 in
    (not-false (form_agrees m) form.0, eqb-true (commit_of m) 0 (not-false (eqb (commit_of m) 0) clean.0))

-- a body behind a test answers as the test does, or goes on
module _ {A : Type 0} (refuse : Refusal → A) (body : A) where
  abbrev after : Passing → A
  after (Ok u) = body
  after (Err why) = refuse why

  tested : (b : Bool) (why : Refusal) {x : A} (r : Passing) → x ≡ after r
      → (if b then refuse why else x) ≡ after (if b then Err why else r)
  tested true why r e = refl
  tested false why r e = e

  list_is : (room : ℕ) → past_list refuse room body ≡ after (list_test room)
  list_is room = tested (ltb room list_words) ShortList (Ok tt) refl

  form_is : (m : List ℕ) → past_form refuse m body ≡ after (form_test m)
  form_is m = tested (not (form_agrees m)) NoPool (Ok tt) refl

  gate_is : (m : List ℕ) → past_gate refuse m body ≡ after (gate_test m)
  gate_is m = tested (not (form_agrees m)) NoPool _ (tested (not (eqb (commit_of m) 0)) Unfinished (Ok tt) refl)

  pub list_shut : (room : ℕ) {why : Refusal} → Err why ≡ list_test room → past_list refuse room body ≡ refuse why
  list_shut room e = list_is room ∙ ap after (sym e)

  pub list_open : (room : ℕ) {u : Unit {0}} → Ok u ≡ list_test room → past_list refuse room body ≡ body
  list_open room e = list_is room ∙ ap after (sym e)

  pub form_shut : (m : List ℕ) {why : Refusal} → Err why ≡ form_test m → past_form refuse m body ≡ refuse why
  form_shut m e = form_is m ∙ ap after (sym e)

  pub form_open : (m : List ℕ) {u : Unit {0}} → Ok u ≡ form_test m → past_form refuse m body ≡ body
  form_open m e = form_is m ∙ ap after (sym e)

  pub gate_open : (m : List ℕ) {u : Unit {0}} → Ok u ≡ gate_test m → past_gate refuse m body ≡ body
  gate_open m e = gate_is m ∙ ap after (sym e)

module _ {m : List ℕ} {key : ℕ} {s : Seat} (p : Admitted m key s) where
  pub found_leaf : AtLeaf m key s
  found_leaf = leaf_found m key s p.form_is p.seated

  pub gate_at : (body : ℕ → List ℕ → Planned Outcome)
      → past_gate refused m (at_leaf body (way_to m key)) ≡ body s.leaf (above_of (way_to m key))
  gate_at body = rw (p.form_is, eq-eqb (commit_of m) 0 p.finished) (ap (at_leaf body) p.seated.way_is)

-- a call that plans at the leaf of a key: 1, then those, then its body
module _ (room : ℕ) (m : List ℕ) (key : ℕ) (body : ℕ → List ℕ → Planned Outcome) where
  abbrev down : Planned Outcome
  down = past_gate refused m (at_leaf body (way_to m key))

  abbrev pub call : Planned Outcome
  call = past_list refused room down

  pub call_short : {why : Refusal} → Err why ≡ list_test room → call ≡ refused why
  call_short e = list_shut refused down room e

  module _ {u : Unit {0}} (long : Ok u ≡ list_test room) where
    pub call_shut : {why : Refusal} → Gated m key (Err why) → call ≡ refused why
    call_shut p = list_open refused down room long ∙ p body

    pub call_at : {s : Seat} → Admitted m key s → call ≡ body s.leaf (above_of (way_to m key))
    call_at p = list_open refused down room long ∙ gate_at p body
