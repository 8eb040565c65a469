-- What document 01 tells of each call beside its refusals holds, on whatever memory.
use Prim.Native.Nat.{ℕ, ◌+◌, ◌*◌, ◌≤◌}
use mathlib.Core.Path.{◌≡◌, refl, sym, ◌∙◌, ap}
use mathlib.Core.List.{List}
use mathlib.Core.Bool.{Bool, true, false, not}
use native.Mathlib.Omega.{arith}
use lib.ListN.{length}
use lib.Dec.{ltb, eqb}
use borrow.Author.Tests.{eqb-true, eqb-false, not-false}
use Rattle.std.specs.Prelude.{if◌then◌else◌, Ok}
use Rattle.words.specs.Tests.{within}
use Rattle.words.specs.Pool.{pairs_at, capacity_most, total_of, list_words}
use Rattle.words.specs.declared.event.Event.{Event}
use Rattle.words.specs.Blocks.{once}
use Rattle.words.specs.declared.refusal.Refusal.{Refusal}
use Rattle.words.specs.declared.refusal.Refusal.TheVariants.{ShortList, NoPool, Unfinished, Damaged, BadLog, ShortMarks}
use Rattle.words.specs.declared.refusal.Refusal.TheVariants.{BadCapacity, ShortSlice}
use Rattle.words.proofs.Tests.{differ}
use Rattle.node.specs.Lists.{has}
use Rattle.node.specs.View.{view, keys, slot_at}
use Rattle.tree.specs.Header.{commit_of, capacity_of, form_agrees, counts_agree}
use Rattle.tree.specs.Path.{Way, failed, leaf, way_to}
use Rattle.tree.specs.Check.{Walk, walk, marks_after}
use Rattle.tree.proofs.Checked.{Checked, sound, faulty, checked}
use Rattle.change.specs.declared.Outcome.{Outcome}
use Rattle.change.specs.declared.Outcome.TheVariants as o
use Rattle.change.specs.declared.Recovery.{Recovery}
use Rattle.change.specs.declared.Recovery.TheVariants as r
use Rattle.change.specs.Gate.{Planned, quiet, refused, past_list, past_gate, at_leaf}
use Rattle.change.specs.Steps.{full, removed_slot}
use Rattle.change.specs.Plan.{log_finished}
use Rattle.change.specs.Format.{format_events, format_past_list, format}
use Rattle.change.specs.Recover.{log_pairs, log_agrees, recover_past_form, recover}
use Rattle.change.specs.Delete.{delete_at, delete}
use Rattle.change.specs.Put.{fill_events, put_at, put}
use Rattle.change.specs.Check.{Examined, check_past_gate, check, walked}
use Rattle.change.specs.Check as k
use Rattle.change.specs.Calls.{check_answer}
use Rattle.change.specs.Told.{Recovers, clean, recovered, Checks, Told}
use Rattle.change.specs.Told as t
use Rattle.change.proofs.Lines.{entry_stored}
use Rattle.change.proofs.Counts.{finished_count, length_log_pairs, format_count}
use Rattle.change.proofs.Cases.{PutAt, replaces, fills, crowded, too_high, splits, put_case}

-- where a call on a key answers what is no refusal, it has come to the key's leaf
abbrev Answered : Outcome → (Planned Outcome → Type 0) → Planned Outcome → Type 0
Answered a Q p = p.answer ≡ Ok a → Q p

module _ (a : Outcome) (Q : Planned Outcome → Type 0) where
  at_leaf_answered : (m : List ℕ) (key : ℕ) (body : ℕ → List ℕ → Planned Outcome)
      → ((k : ℕ) (above : List ℕ) → way_to m key ≡ leaf k above → Answered a Q (body k above)) → Answered a Q (at_leaf body (way_to m key))
  at_leaf_answered m key body h = go (way_to m key) refl
    where
      go : (w : Way) → way_to m key ≡ w → Answered a Q (at_leaf body w)
      go (failed node) e = λ x. cc
      go (leaf k above) e = h k above e

  past : (b : Bool) (why : Refusal) (p : Planned Outcome) → Answered a Q p → Answered a Q (if b then refused why else p)
  past true why p h = λ x. cc
  past false why p h = h

  gates : (room : ℕ) (m : List ℕ) (key : ℕ) (body : ℕ → List ℕ → Planned Outcome)
      → ((k : ℕ) (above : List ℕ) → way_to m key ≡ leaf k above → Answered a Q (body k above))
      → Answered a Q (past_list refused room (past_gate refused m (at_leaf body (way_to m key))))
  gates room m key body h =
      past (ltb room list_words) ShortList _ (past (not (form_agrees m)) NoPool _
      (past (not (eqb (commit_of m) 0)) Unfinished _ (at_leaf_answered m key body h)))

abbrev Long : ℕ → Planned Outcome → Type 0
Long n p = length p.events ≡ n

fill_long : (k : ℕ) (m : List ℕ) (key value : ℕ) → length (fill_events k (view m k) (key, value)) ≡ 7
fill_long k m key value = rw entry_stored

replaced_counts : (room : ℕ) (m : List ℕ) (key value : ℕ) → Answered o.Replaced (Long 3) (put room m key value)
replaced_counts room m key value =
    gates o.Replaced (Long 3) room m key (put_at m key value)
    (λ k above e. go (put_case m key value k above))
  where
    go : {k : ℕ} {above : List ℕ} {p : Planned Outcome} → PutAt m key value k above p → Answered o.Replaced (Long 3) p
    go (replaces a) x = refl
    go (fills a b) x = cc
    go (crowded a b s) x = cc
    go (too_high n) x = cc
    go (splits a b n) x = cc

filled_counts : (room : ℕ) (m : List ℕ) (key value k : ℕ) (above : List ℕ) → (put room m key value).answer ≡ Ok o.New
    → way_to m key ≡ leaf k above → full (view m k) ≡ false → Long 7 (put room m key value)
filled_counts room m key value k above new way room-left =
    gates o.New (Long 7) room m key (put_at m key value)
    (λ j ks e. let same : leaf j ks ≡ leaf k above = sym e ∙ way in let i : j ≡ k = cc in
    go (rw i room-left) (put_case m key value j ks)) new
  where
    go : {j : ℕ} {ks : List ℕ} {p : Planned Outcome} → full (view m j) ≡ false → PutAt m key value j ks p → Answered o.New (Long 7) p
    go t (replaces a) x = cc
    go {j} t (fills a b) x = fill_long j m key value
    go t (crowded a b s) x = cc
    go t (too_high n) x = cc
    go t (splits a b n) x = absurd (differ (sym b ∙ t))

delete_counts : (room : ℕ) (m : List ℕ) (key : ℕ) (a : Outcome) (n : ℕ) → (o.Removed ≡ a → ◌≡◌ {A = ℕ} 3 n)
    → (o.Absent ≡ a → ◌≡◌ {A = ℕ} 0 n) → Answered a (Long n) (delete room m key)
unfolding delete_at
delete_counts room m key a n removed absent =
    gates a (Long n) room m key (delete_at m key)
    (λ k above e. go (has key (keys (view m k).records)) (once (slot_at k) (removed_slot (view m k) key)) refl)
  where
    go : (b : Bool) (es : List Event) → length es ≡ 3
        → Answered a (Long n) (if b then record { answer = Ok o.Removed; events = es } else quiet o.Absent)
    go true es e x = let same : o.Removed ≡ a = cc in e ∙ removed same
    go false es e x = let same : o.Absent ≡ a = cc in absent same

format_counts : (room size capacity events : ℕ) → (format room size capacity).answer ≡ Ok events
    → (events ≡ 20) × (length (format room size capacity).events ≡ 20)
unfolding format_past_list
format_counts room size capacity events =
    go (ltb room list_words) (not (within 1 capacity capacity_most)) (ltb size (total_of capacity))
  where
    es : List Event
    es = format_events capacity

    go : (a b d : Bool) → let x : Planned ℕ = if a then refused ShortList else if b then refused BadCapacity
        else if d then refused ShortSlice else record { answer = Ok (length es); events = es } in
        x.answer ≡ Ok events → (events ≡ 20) × (length x.events ≡ 20)
    go true b d e = cc
    go false true d e = cc
    go false false true e = cc
    go false false false e = let i : length es ≡ events = cc in (sym i ∙ format_count capacity, format_count capacity)

recovers : (room : ℕ) (m : List ℕ) → Recovers room m
unfolding recover_past_form
recovers room m =
    go (ltb room list_words) refl (not (form_agrees m)) refl (eqb (commit_of m) 0) refl (not (log_agrees m)) refl
  where
    es : List Event
    es = log_finished (log_pairs (commit_of m) pairs_at m)

    long : length es ≡ 2 * commit_of m + 4
    long = omega (arith, finished_count (log_pairs (commit_of m) pairs_at m), length_log_pairs (commit_of m) pairs_at m)

    go : (a : Bool) → ltb room list_words ≡ a → (b : Bool) → not (form_agrees m) ≡ b → (d : Bool) → eqb (commit_of m) 0 ≡ d
        → (h : Bool) → not (log_agrees m) ≡ h → Recovers room m
    go true x b y d z h v = t.refused ShortList (rw x)
    go false x true y d z h v = t.refused NoPool (rw (x, y))
    go false x false y true z h v = clean (eqb-true (commit_of m) 0 z) (rw (x, y, z))
    go false x false y false z true v = t.refused BadLog (rw (x, y, z, v))
    go false x false y false z false v =
        let some : 1 ≤ commit_of m = omega (arith, eqb-false (commit_of m) 0 z) in
        let is : recover room m ≡ record { answer = Ok (r.Recovered (commit_of m) (length es)); events = es } = rw (x, y, z, v) in
        recovered some (ap (λ (p : Planned Recovery). p.answer) is ∙ ap (λ (n : ℕ). Ok (r.Recovered (commit_of m) n)) long)
        (ap (λ (p : Planned Recovery). p.events) is) (ap (λ (p : Planned Recovery). length p.events) is ∙ long)

checks : (m g : List ℕ) → Checks m g
unfolding check_past_gate
checks m g =
    go (not (form_agrees m)) refl (not (eqb (commit_of m) 0)) refl (ltb (length g) (capacity_of m)) (not (counts_agree m)) refl refl
  where
    answer_of : {x : Examined} → check m g ≡ x → check_answer m g ≡ x.answer
    answer_of e = ap (λ (x : Examined). x.answer) e

    ended : (w : Walk) → Checked m w → check_answer m g ≡ Ok (walked w) → Checks m g
    ended w (sound w' n r) e = t.sound w' (e ∙ rw (n, r) refl)
    ended w (faulty n) e = t.fault n _ e

    go : (a : Bool) → not (form_agrees m) ≡ a → (b : Bool) → not (eqb (commit_of m) 0) ≡ b → (d h : Bool) → not (counts_agree m) ≡ h
        → check m g ≡ (if a then k.refuse g NoPool else if b then k.refuse g Unfinished else if d then k.refuse g ShortMarks
        else if h then k.refuse g Damaged else record { answer = Ok (walked (walk m g)); marks = marks_after (walk m g) }) → Checks m g
    go true x b y d h v e = t.refused NoPool (answer_of e)
    go false x true y d h v e = t.refused Unfinished (answer_of e)
    go false x false y true h v e = t.refused ShortMarks (answer_of e)
    go false x false y false true v e = t.refused Damaged (answer_of e)
    go false x false y false false v e =
        let clean_is : commit_of m ≡ 0 = eqb-true (commit_of m) 0 (not-false (eqb (commit_of m) 0) y) in
        ended (walk m g) (checked m g clean_is (not-false (form_agrees m) x) (not-false (counts_agree m) v)) (answer_of e)

pub told : Told
told = record {
  counts = record {
    replaced = replaced_counts;
    filled = filled_counts;
    removed = λ room m key. delete_counts room m key o.Removed 3 (λ e. refl) (λ e. cc);
    absent = λ room m key. delete_counts room m key o.Absent 0 (λ e. cc) (λ e. refl);
    formatted = format_counts;
  };
  recovers = recovers;
  checks = checks;
}
