-- Demand 1 of the desks: submit and turn answer the numbers that 01's table says, by demand 1 of the pool for what a turn serves.
use Prim.Native.Nat.{ℕ, zero, suc, ◌-◌, ◌≤◌}
use mathlib.Core.Path.{◌≡◌, refl, sym, ◌∙◌, ap}
use mathlib.Core.Logic.{◌⊎◌, inl, inr}
use mathlib.Core.List.{List, [], ◌∷◌}
use mathlib.Core.Bool.{Bool, true, false, not, ◌&&◌}
use native.Mathlib.Omega.{arith}
use lib.ListN.{length, get_or, set}
use lib.Dec.{ltb}
use Rattle.std.specs.Prelude.{Err, None, Ok, Result, Some, if◌then◌else◌}
use Rattle.words.specs.Refusals.{number}
use Rattle.words.specs.Carry.{after_all}
use Rattle.words.specs.declared.refusal.Refusal.{Refusal}
use Rattle.words.specs.declared.refusal.Refusal.TheVariants.{NoDesk, FullDesk}
use Rattle.words.proofs.Tests.{Tells, is, isnt}
use Rattle.words.proofs.Fails.{row, not_tells, tells_less, fails_most, fails_within, fails_and, not_out}
use Rattle.change.specs.declared.Request.{Request}
use Rattle.change.specs.declared.Request.TheVariants.{Put, Fetch, Delete}
use Rattle.change.specs.declared.Answer.{Answer}
use Rattle.change.specs.Gate.{outcome_of}
use Rattle.change.specs.Fetch.{fetch}
use Rattle.change.specs.Answers.{outcome_says}
use Rattle.change.specs.Calls.{serve_answer, serve_list}
use Rattle.change.specs.Conditions.{Says, ShortList}
use Rattle.pool.proofs.Demand1.{demand_1, some_number}
use Rattle.desk.specs.declared.answer.Turned.{Turned}
use Rattle.desk.specs.declared.answer.Turned.TheVariants.{Served}
use Rattle.desk.specs.Desk.{Desk, full, held, with_desk, fresh, may_submit, may_turn, choose}
use Rattle.desk.specs.Turn.{Left, submit_answer, submit_desks, as_handed, serve_desk, serve_turn, turn}
use Rattle.desk.specs.Answers.{submit_says, turned_says}
use Rattle.desk.specs.Rows.{our_way}
use Rattle.desk.specs.Refused as w
use Rattle.desk.proofs.Choose.{full_range}
use Rattle.desk.proofs.Promise.{outcome_answered}
use Rattle.desk.proofs.Served.{by}

-- the desk of a member, by its place
held_is : (ds : List Desk) (j : ℕ) → 1 ≤ j → held ds j ≡ get_or ds (j - 1) None
held_is ds zero h = absurd (omega arith)
held_is ds (suc i) h = let e : suc i - 1 ≡ i = omega arith in rw e refl

with_is : (ds : List Desk) (j : ℕ) → 1 ≤ j → with_desk ds j fresh ≡ set ds (j - 1) None
with_is ds zero h = absurd (omega arith)
with_is ds (suc i) h = let e : suc i - 1 ≡ i = omega arith in rw e refl

-- submit: 9, then 10
submit_numbers : (ds : List Desk) (member : ℕ) → Says ((w.NoMember ds member, 9) ∷ (w.FullDesk ds member, 10) ∷ [])
    (submit_says (submit_answer ds member)).1
unfolding submit_answer
submit_numbers ds member =
    row 9 ((w.FullDesk ds member, 10) ∷ []) (λ x. (submit_says x).1) (Err NoDesk) _
    (not_tells (fails_and (fails_within 1 (length ds) 16) (fails_within 1 member (length ds)))) refl
    (λ n. row 10 [] (λ x. (submit_says x).1) (Err FullDesk) (Ok tt)
    (tells_full (not_out 1 member (length ds) (λ o. n (inr o))).0) refl (λ n. refl))
  where
    tells_full : 1 ≤ member → Tells (w.FullDesk ds member) (full (held ds member))
    tells_full h = rw (held_is ds member h) (go (get_or ds (member - 1) None))
      where
        go : (d : Desk) → Tells ((q : Request) × (d ≡ Some q)) (full d)
        go None = isnt (λ x. let e = x.1 in cc)
        go (Some q) = is (q, refl)

submit_kept : (ds : List Desk) (member : ℕ) (q : Request) (why : Refusal) → submit_answer ds member ≡ Err why
    → submit_desks ds member q ≡ ds
unfolding submit_answer submit_desks
submit_kept ds member q why = go (may_submit (length ds) member) (full (held ds member))
  where
    go : (a b : Bool)
        → ◌≡◌ {A = Result Unit Refusal} (if not a then Err NoDesk else if b then Err FullDesk else Ok tt) (Err why)
        → (if a && not b then with_desk ds member (Some q) else ds) ≡ ds
    go true true e = refl
    go true false e = cc
    go false b e = refl

-- what a turn serves, past 1
past_one : {C R : Type 0} {n : ℕ} → ¬ C → (C × (n ≡ 1)) ⊎ ((¬ C) × R) → R
past_one n (inl c) = absurd (n c.0)
past_one n (inr h) = h.1

request_numbers : (m l : List ℕ) (q : Request) → ¬ ShortList l
    → Says (w.request_rows m q) (outcome_says (outcome_of (serve_answer m l q))).1
request_numbers m l (Put key value) n = past_one n (demand_1.put m l key value)
request_numbers m l (Fetch key) n = rw (outcome_answered (fetch m key)) (demand_1.fetch m key)
request_numbers m l (Delete key) n = past_one n (demand_1.delete m l key)

-- a refusal among them is 2 to 5
module _ {n : ℕ} (some : 1 ≤ n) where
  among : {C R : Type 0} (k : ℕ) → 2 ≤ k → k ≤ 5 → (R → (2 ≤ n) × (n ≤ 5)) → (C × (n ≡ k)) ⊎ ((¬ C) × R) → (2 ≤ n) × (n ≤ 5)
  among k a b rest (inl c) = let e = c.1 in (omega arith, omega arith)
  among k a b rest (inr h) = rest h.1

  none_left : n ≡ 0 → (2 ≤ n) × (n ≤ 5)
  none_left e = absurd (omega arith)

  -- 2, 3 and 4, then other rows
  from_two : {A B C R : Type 0} → (R → (2 ≤ n) × (n ≤ 5))
      → (A × (n ≡ 2)) ⊎ ((¬ A) × ((B × (n ≡ 3)) ⊎ ((¬ B) × ((C × (n ≡ 4)) ⊎ ((¬ C) × R))))) → (2 ≤ n) × (n ≤ 5)
  from_two rest =
      among 2 (omega arith) (omega arith) (among 3 (omega arith) (omega arith) (among 4 (omega arith) (omega arith) rest))

  in_rows : (m : List ℕ) (q : Request) → Says (w.request_rows m q) n → (2 ≤ n) × (n ≤ 5)
  in_rows m (Put key value) =
      from_two (among 5 (omega arith) (omega arith) (among 4 (omega arith) (omega arith) none_left))
  in_rows m (Fetch key) = from_two none_left
  in_rows m (Delete key) = from_two none_left

module _ (m l : List ℕ) (ds : List Desk) (last : ℕ) where
  abbrev k : ℕ
  k = choose ds last

  abbrev left : Left
  left = turn m l ds last

  tells_nine : Tells (w.NoTurn ds last) (not (may_turn (length ds) last))
  tells_nine = not_tells (fails_and (fails_within 1 (length ds) 16) (fails_most last (length ds)))

  -- the turn itself: 9, then 1
  itself_numbers : Says ((w.NoTurn ds last, 9) ∷ (ShortList l, 1) ∷ []) (w.itself_says left.answer.turned)
  unfolding serve_turn
  itself_numbers =
      row 9 ((ShortList l, 1) ∷ []) (λ (x : Left). w.itself_says x.answer.turned) _ _ tells_nine refl
      (λ n. row 1 [] (λ (x : Left). w.itself_says x.answer.turned) _ _ (tells_less (length l) 372) refl (λ n. go (held ds k)))
    where
      go : (d : Desk) → w.itself_says (serve_desk m l last k d).answer.turned ≡ 0
      go None = refl
      go (Some q) = refl

  -- then those of the request that is served
  whole_numbers : Says ((w.NoTurn ds last, 9) ∷ (ShortList l, 1) ∷ w.desk_rows m (held ds k)) (turned_says left.answer.turned).1
  unfolding serve_turn
  whole_numbers =
      row 9 ((ShortList l, 1) ∷ w.desk_rows m (held ds k)) (λ (x : Left). (turned_says x.answer.turned).1) _ _ tells_nine refl
      (λ n. row 1 (w.desk_rows m (held ds k)) (λ (x : Left). (turned_says x.answer.turned).1) _ _ (tells_less (length l) 372) refl
      (go (held ds k)))
    where
      go : (d : Desk) → ¬ ShortList l → Says (w.desk_rows m d) (turned_says (serve_desk m l last k d).answer.turned).1
      go None n = refl
      go (Some q) n = request_numbers m l q n

  -- a turn that is itself refused
  refused_is : (why : Refusal) → left.answer.turned ≡ Err why → left ≡ as_handed m l last (Err why)
  unfolding serve_turn
  refused_is why = go (not (may_turn (length ds) last)) (ltb (length l) 372) (held ds k)
    where
      go : (a b : Bool) (d : Desk) → (by m l (length ds) last k a b d).answer.turned ≡ Err why
          → by m l (length ds) last k a b d ≡ as_handed m l last (Err why)
      go true b d e = ap (as_handed m l last) e
      go false true d e = ap (as_handed m l last) e
      go false false None e = cc
      go false false (Some q) e = cc

  as_handed_is : (why : Refusal) → left.answer.turned ≡ Err why → w.AsHanded our_way m l ds last
  as_handed_is why r =
      let e = refused_is why r in
      record {
        pool_is = ap (λ (x : Left). x.pool) e;
        list_is = ap (λ (x : Left). x.list) e;
        desks_are = ap (λ (x : Left). with_desk ds x.answer.member fresh) e;
        member_is = ap (λ (x : Left). x.answer.member) e;
        events_are = ap (λ (x : Left). x.answer.events) e;
        last_is = ap (λ (x : Left). x.answer.last) e;
      }

  -- a turn whose request is refused
  record Serves (why : Refusal) : Type 0 where
    q : Request
    long : ¬ ShortList l
    desk_is : held ds k ≡ Some q
    left_is : left ≡ serve_desk m l last k (Some q)
    answer_is : serve_answer m l q ≡ Err why

  serves : (why : Refusal) → left.answer.turned ≡ Ok (Served (Err why)) → Serves why
  unfolding serve_turn
  serves why = go (not (may_turn (length ds) last)) (tells_less (length l) 372) (held ds k) refl refl
    where
      refused_of : (a : Result Answer Refusal)
          → ◌≡◌ {A = Result Turned Refusal} (Ok (Served (outcome_of a))) (Ok (Served (Err why))) → a ≡ Err why
      refused_of (Ok a) e = cc
      refused_of (Err x) e = let same : x ≡ why = cc in ap Err same

      go : (a : Bool) {b : Bool} → Tells (ShortList l) b → (d : Desk) → held ds k ≡ d → left ≡ by m l (length ds) last k a b d
          → (by m l (length ds) last k a b d).answer.turned ≡ Ok (Served (Err why)) → Serves why
      go true t d f x e = cc
      go false (is c) d f x e = cc
      go false (isnt n) None f x e = cc
      go false (isnt n) (Some q) f x e =
          record { q = q; long = n; desk_is = f; left_is = x; answer_is = refused_of (serve_answer m l q) e }

  answered_is : (why : Refusal) → left.answer.turned ≡ Ok (Served (Err why)) → w.Answered our_way m l ds last why
  unfolding after_all
  answered_is why r =
      let x = serves why r in
      let q = x.q in
      let e = x.left_is in
      let kept = demand_1.serve_refused m l q why x.answer_is in
      let range = full_range ds k (ap full x.desk_is) in
      let says : Says (w.request_rows m q) (number why) =
      rw x.answer_is at (request_numbers m l q x.long) in
      record {
        request = q;
        member = k;
        member_is = ap (λ (t : Left). t.answer.member) e;
        one_of = range;
        held_it = sym (held_is ds k range.0) ∙ x.desk_is;
        says = says;
        numbers = in_rows (some_number why) m q says;
        events_are = ap (λ (t : Left). t.answer.events) e ∙ kept.0;
        pool_is = ap (λ (t : Left). t.pool) e ∙ ap (after_all m (serve_list m l q) 1) kept.0;
        list_is = ap (λ (t : Left). t.list) e ∙ kept.1;
        desks_are = ap (λ (t : Left). with_desk ds t.answer.member fresh) e ∙ with_is ds k range.0;
        last_is = ap (λ (t : Left). t.answer.last) e;
      }

pub refuses : w.Refuses our_way
refuses = record {
  submit = submit_numbers;
  turn_itself = itself_numbers;
  turn_whole = whole_numbers;
  submit_refused = submit_kept;
  turn_refused = as_handed_is;
  request_refused = answered_is;
}
