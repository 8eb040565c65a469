-- Recover: the test of its log, turn by turn, what (d) and (e) are handed, and its returns.
use Prim.Native.Nat.{ℕ, zero, suc, ◌+◌, ◌-◌, ◌≤◌, ◌<◌}
use mathlib.Core.Path.{◌≡◌, refl, ◌∙◌, ap}
use mathlib.Core.List.{List, [], ◌∷◌}
use mathlib.Core.Bool.{Bool, true, false, not, ◌&&◌}
use native.Mathlib.Omega.{arith}
use native.Mathlib.Nat.{add-zero}
use native.Mathlib.Numerals.{add-one}
use lib.ListN.{length, get_or, take, drop, length-drop, drop_of_length-le}
use lib.Seq.{drop-cons}
use lib.Dec.{leb, ltb}
use borrow.Author.Tests.{le-leb, lt-leb, ltb-true, eq-eqb, ne_eqb}
use Rattle.std.specs.Prelude.{Ok, Err}
use Rattle.std.proofs.lemmas.List.{get_or-drop, get_or-take, drop-drop, take_all}
use Rattle.std.specs.Simd.{first_chunks}
use Rattle.words.specs.Tests.{within}
use Rattle.words.specs.Pool as p
use Rattle.words.specs.declared.event.Event.{Event}
use Rattle.words.specs.Event.{at}
use Rattle.words.specs.Blocks.{Pair}
use Rattle.words.specs.declared.refusal.Refusal.{Refusal}
use Rattle.words.specs.declared.refusal.Refusal.TheVariants.{BadLog}
use Rattle.words.proofs.Tests.{both}
use Rattle.tree.specs.Header.{total_in, commit_of, form_agrees}
use Rattle.tree.proofs.Form.{Form, form}
use Rattle.change.specs.declared.Recovery.TheVariants.{Clean, Recovered}
use Rattle.change.specs.Gate.{quiet, refused, past_form}
use Rattle.change.specs.Plan.{log_finished}
use Rattle.change.specs.Recover.{log_pairs, may_store, all_may_store, log_agrees, recover_past_form, recover}
use Rattle.change.proofs.Counts.{length_log_pairs}
use Rattle.change.proofs.Recover.{log_says}
use Rattle.split.specs.inner.Pairs.{pairs_of, Near}
use Rattle.split.proofs.Notes.{length_pairs}
use Rattle.pool.proofs.Gates.{list_test, form_test, list_shut, list_open, form_shut, form_open}

may_store_low : (total w : ℕ) → may_store total w ≡ true → w < total
may_store_low total w t =
    ltb-true w total (both {a = leb p.used_at w && not (within p.log_at w (p.nodes_at - 1))} {b = ltb w total} t).1

-- the pairs of the log, seen in its words two by two
chunk_pairs : (c n w : ℕ) (m : List ℕ) → c ≤ n → pairs_of (take c (first_chunks 2 n (drop w m))) ≡ log_pairs c w m
unfolding log_pairs
chunk_pairs zero n w m h = refl
chunk_pairs (suc c) zero w m h = absurd (omega arith)
chunk_pairs (suc c) (suc n) w m h =
    let a : at (take 2 (drop w m)) 0 ≡ at m w = get_or-take 2 (drop w m) 0 0 (omega arith) ∙ get_or-drop w m 0 0 ∙ rw add-zero in
    let v : at (take 2 (drop w m)) 1 ≡ at m (w + 1) = get_or-take 2 (drop w m) 1 0 (omega arith) ∙ get_or-drop w m 1 0 in
    let on : pairs_of (take c (first_chunks 2 n (drop 2 (drop w m)))) ≡ log_pairs c (w + 2) m =
    rw (drop-drop 2 w m) (chunk_pairs c n (w + 2) m (omega arith)) in
    rw (a, v, on) refl

-- the test of the pairs from pair i on
module _ (total : ℕ) (qs : List (List ℕ)) (i : ℕ) where
  abbrev pub tested : Bool
  tested = all_may_store total (pairs_of (drop i qs))

  module _ (h : i < length qs) where
    first : drop i qs ≡ get_or qs i [] ∷ drop (i + 1) qs
    first = drop-cons qs i [] h ∙ rw (add-one i)

    pub test_on : may_store total (at (get_or qs i []) 0) ≡ true → tested ≡ all_may_store total (pairs_of (drop (i + 1) qs))
    unfolding all_may_store
    test_on t = rw (first, t)

    pub test_stops : may_store total (at (get_or qs i []) 0) ≡ false → tested ≡ false
    unfolding all_may_store
    test_stops t = rw (first, t)

  pub test_ends : length qs ≤ i → tested ≡ true
  unfolding all_may_store
  test_ends h = rw (drop_of_length-le qs h)

-- the log's test
module _ (m : List ℕ) where
  pub many_pairs : p.pairs_most < commit_of m → log_agrees m ≡ false
  unfolding log_agrees
  many_pairs h = rw (lt-leb (commit_of m) p.pairs_most h)

  -- of at most 31 pairs, the first of all the chunks of the pool's words
  module _ {n : ℕ} (all : List (List ℕ)) (e : all ≡ first_chunks 2 n (take (length m - p.pairs_at) (drop p.pairs_at m)))
      (room : commit_of m ≤ n) where
    pub log_is : pairs_of (take (commit_of m) all) ≡ log_pairs (commit_of m) p.pairs_at m
    log_is =
        let whole : take (length m - p.pairs_at) (drop p.pairs_at m) ≡ drop p.pairs_at m =
        take_all (length m - p.pairs_at) (drop p.pairs_at m) (omega (arith, length-drop p.pairs_at m)) in
        rw (e, whole) (chunk_pairs (commit_of m) n p.pairs_at m room)

    pub log_test : commit_of m ≤ p.pairs_most → {b : Bool} → all_may_store (total_in m) (pairs_of (take (commit_of m) all)) ≡ b
        → log_agrees m ≡ b
    unfolding log_agrees
    log_test few t = rw (le-leb (commit_of m) p.pairs_most few, ← log_is) t

-- addresses that may be stored to fit an event
near : {total : ℕ} → total ≤ p.total_of p.capacity_most → (ps : List Pair) → all_may_store total ps ≡ true → Near ps
unfolding all_may_store
near h [] t = tt
near {total} h (q ∷ ps) t =
    let b = both {a = may_store total q.0} {b = all_may_store total ps} t in
    (omega (arith, may_store_low total q.0 b.0), near h ps b.1)

-- what (d) and (e) of a log that agrees are handed
module _ (m : List ℕ) (qs : List (List ℕ)) (t : log_agrees m ≡ true) (e : pairs_of qs ≡ log_pairs (commit_of m) p.pairs_at m) where
  pub log_few : length qs ≤ p.pairs_most
  log_few = omega (arith, (log_says m t).0, length_pairs qs, ap length e, length_log_pairs (commit_of m) p.pairs_at m)

  pub log_near : form_agrees m ≡ true → Near (pairs_of qs)
  log_near f =
      let h : Form m = form m f in
      rw e (near (omega (arith, h.total, h.capacity.1)) (log_pairs (commit_of m) p.pairs_at m) (log_says m t).1)

-- the returns
module _ (room : ℕ) (m : List ℕ) where
  pub recover_short : {why : Refusal} → Err why ≡ list_test room → recover room m ≡ refused why
  recover_short e = list_shut refused (past_form refused m (recover_past_form m)) room e

  module _ {u : Unit {0}} (long : Ok u ≡ list_test room) where
    opened : recover room m ≡ past_form refused m (recover_past_form m)
    opened = list_open refused (past_form refused m (recover_past_form m)) room long

    pub recover_no_pool : {why : Refusal} → Err why ≡ form_test m → recover room m ≡ refused why
    recover_no_pool e = opened ∙ form_shut refused (recover_past_form m) m e

    module _ {v : Unit {0}} (formed : Ok v ≡ form_test m) where
      past : recover room m ≡ recover_past_form m
      past = opened ∙ form_open refused (recover_past_form m) m formed

      pub recover_clean : commit_of m ≡ 0 → recover room m ≡ quiet Clean
      unfolding recover_past_form
      recover_clean z = past ∙ rw (eq-eqb (commit_of m) 0 z)

      module _ (some : commit_of m ≡ 0 → ⊥) where
        pub recover_bad_log : log_agrees m ≡ false → recover room m ≡ refused BadLog
        unfolding recover_past_form
        recover_bad_log t = past ∙ rw (ne_eqb (commit_of m) 0 some, t)

        abbrev es : List Event
        es = log_finished (log_pairs (commit_of m) p.pairs_at m)

        pub recover_done : log_agrees m ≡ true → recover room m ≡ record { answer = Ok (Recovered (commit_of m) (length es)); events = es }
        unfolding recover_past_form
        recover_done t = past ∙ rw (ne_eqb (commit_of m) 0 some, t)
