-- Format, cut after n events: what stood there, no pool, or the empty pool.
use Prim.Native.Nat.{ℕ, ◌-◌, ◌≤◌, ◌<◌}
use mathlib.Core.Path.{◌≡◌, refl, sym, ◌∙◌, ap}
use mathlib.Core.Logic.{⊎_elim}
use mathlib.Core.List.{List, [], ◌∷◌, ◌++◌, append_assoc}
use mathlib.Core.Bool.{true}
use native.Mathlib.Omega.{arith}
use native.Mathlib.Decide.{dec_le}
use lib.ListN.{length, take}
use lib.Seq.{take_all, get_or-set_same}
use Rattle.words.specs.Tests.{within}
use Rattle.words.specs.Pool as p
use Rattle.words.specs.declared.event.Event.{Event}
use Rattle.words.specs.declared.event.Event.TheVariants.{Fence as fence}
use Rattle.words.specs.Event.{at, run}
use Rattle.words.specs.Blocks.{Pair, once, lines, stored}
use Rattle.words.specs.Loss.{Safe, Cut}
use Rattle.words.proofs.Tests.{within_says}
use Rattle.words.proofs.Events.{To, Stores, some_append, run_append, run_off, length_run}
use Rattle.words.proofs.Loss.{Settled, settled_append, settled_safe, cut_off_take, cut_settled, cut_append}
use Rattle.words.proofs.Blocks.{stores_stored, flushed_stored, settled_fence, settled_once}
use Rattle.words.proofs.Commit.{cut_once}
use Rattle.tree.proofs.Lists.{each_append}
use Rattle.change.specs.Format.{fresh_words, format_events}
use Rattle.change.proofs.Pairs.{Within, within_at, within_weaken}
use Rattle.change.proofs.Goes.{Goes, once_goes, stored_goes}
use Rattle.change.proofs.Survives.{Under}

-- what a cut of the events es of format on m, after n of them, leaves
pub data FormatLeft (m : List ℕ) (es : List Event) (n : ℕ) (m' : List ℕ) : Type 0 where
  stood : n ≤ 2 → m' ≡ m → FormatLeft m es n m'
  no_pool : n ≤ 19 → at m' p.form_at ≡ 0 → FormatLeft m es n m'
  emptied : 18 ≤ n → m' ≡ run m es → FormatLeft m es n m'

module _ (capacity : ℕ) where
  -- all that is stored but word 0
  abbrev fw : List Pair
  fw = fresh_words capacity

  -- with the flushes of its lines, and a fence
  abbrev fresh : List Event
  fresh = stored fw ++ (fence ∷ [])

  abbrev opening : List Event
  opening = once p.form_at 0

  abbrev closing : List Event
  closing = once p.form_at p.form

  parts : format_events capacity ≡ opening ++ (fresh ++ closing)
  unfolding format_events
  parts = ap (λ (es : List Event). opening ++ es) (sym (append_assoc (stored fw) (fence ∷ []) closing))

  -- its words stand in 1 to 73
  abbrev Place : ℕ → Type 0
  Place x = (1 ≤ x) × (x ≤ 73)

  fresh_places : Within Place fw
  fresh_places =
      let i : (x : ℕ) → within 1 x 73 ≡ true → Place x = λ x. within_says 1 x 73 in
      (i 1 refl, (i 2 refl, (i 3 refl, (i 4 refl, (i 5 refl, (i 6 refl, (i 7 refl, (i 8 refl, (i 72 refl, (i 73 refl, tt))))))))))

  fresh_length : length fresh ≡ 14
  unfolding stored lines
  fresh_length = refl

  fresh_off : ¬ Stores p.form_at fresh
  fresh_off s = ⊎_elim stored_off (⊎_elim absurd absurd) (some_append (To p.form_at) (stored fw) (fence ∷ []) s)
    where
      stored_off : ¬ Stores p.form_at (stored fw)
      stored_off a = omega (arith, within_at Place fw p.form_at fresh_places ((stores_stored p.form_at fw).0 a))

  fresh_settled : (x : ℕ) → Settled x fresh
  fresh_settled x = settled_fence x (stored fw) (flushed_stored x fw)

  pub format_safe : (m : List ℕ) (x : ℕ) → Safe m (format_events capacity) x
  format_safe m x =
      rw parts (settled_safe m (opening ++ (fresh ++ closing)) x
      (settled_append x opening (fresh ++ closing) (settled_once x p.form_at 0)
      (settled_append x fresh closing (fresh_settled x) (settled_once x p.form_at p.form))))

  pub format_under : 1 ≤ capacity → Under (p.total_of capacity) (format_events capacity)
  unfolding format_events
  format_under h =
      let P : ℕ → Type 0 = λ (x : ℕ). x < p.total_of capacity in
      let words : Within P fw = within_weaken Place {Q = P} fw (λ x b. omega (arith, b.1)) fresh_places in
      each_append (Goes P) opening (stored fw ++ (fence ∷ closing)) (once_goes P p.form_at 0 (omega arith))
      (each_append (Goes P) (stored fw) (fence ∷ closing) (stored_goes P fw words)
      (tt, once_goes P p.form_at p.form (omega arith)))

  module _ (m : List ℕ) (inside : p.form_at < length m) where
    abbrev closed : List ℕ
    closed = run m opening

    abbrev filled : List ℕ
    filled = run closed fresh

    closed_form : at closed p.form_at ≡ 0
    closed_form = get_or-set_same m p.form_at 0 0 inside

    filled_form : at filled p.form_at ≡ 0
    filled_form = run_off closed fresh p.form_at fresh_off ∙ closed_form

    whole : run m (format_events capacity) ≡ run filled closing
    whole = ap (run m) parts ∙ run_append m opening (fresh ++ closing) ∙ run_append closed fresh closing

    abbrev Left : ℕ → List ℕ → Type 0
    Left = FormatLeft m (format_events capacity)

    -- within the first three events
    opening_cut : {m' : List ℕ} (n : ℕ) → n ≤ 3 → Cut m (take n opening) m' → Left n m'
    opening_cut {m'} n b c = go (dec_le n 2)
      where
        go : Dec (n ≤ 2) → Left n m'
        go (yes h) = ⊎_elim (λ e. stood h e) (λ e. no_pool (omega arith) (rw e closed_form)) (cut_once p.form_at 0 n inside c)
        go (no h) =
            let l : length opening ≤ n = omega arith in
            let e : m' ≡ closed = cut_settled opening (λ x. settled_once x p.form_at 0) (rw take_all at c) in
            no_pool (omega arith) (rw e closed_form)

    -- within the last three
    closing_cut : {m' : List ℕ} (n : ℕ) → 17 ≤ n → Cut filled (take (n - 3 - 14) closing) m' → Left n m'
    closing_cut {m'} n b c = go (dec_le n 17) (dec_le n 19)
      where
        go : Dec (n ≤ 17) → Dec (n ≤ 19) → Left n m'
        go (yes h) d =
            let z : n - 3 - 14 ≡ 0 = omega arith in
            let e : m' ≡ filled = cut_settled [] (λ x. tt) (rw z at c) in
            no_pool (omega arith) (rw e filled_form)
        go (no h) (yes d) =
            ⊎_elim (λ e. no_pool d (rw e filled_form)) (λ e. emptied (omega arith) (e ∙ sym whole))
            (cut_once p.form_at p.form (n - 3 - 14) (rw (length_run, length_run) inside) c)
        go (no h) (no d) =
            let l : length closing ≤ n - 3 - 14 = omega arith in
            let e : m' ≡ run filled closing = cut_settled closing (λ x. settled_once x p.form_at p.form) (rw take_all at c) in
            emptied (omega arith) (e ∙ sym whole)

    later_cut : {m' : List ℕ} (n : ℕ) → 3 ≤ n → Cut closed (take (n - 3) (fresh ++ closing)) m' → Left n m'
    later_cut {m'} n b c =
        ⊎_elim
        (λ r. no_pool (omega (arith, r.0, fresh_length)) ((cut_off_take (n - 3) fresh r.1).words p.form_at fresh_off ∙ closed_form))
        (λ r. closing_cut n (omega (arith, r.0, fresh_length)) (rw fresh_length at r.1))
        (cut_append fresh closing (n - 3) fresh_settled c)

    pub format_cut : (n : ℕ) (m' : List ℕ) → Cut m (take n (format_events capacity)) m' → FormatLeft m (format_events capacity) n m'
    format_cut n m' c =
        ⊎_elim (λ r. opening_cut n r.0 r.1) (λ r. later_cut n r.0 r.1)
        (cut_append opening (fresh ++ closing) n (λ x. settled_once x p.form_at 0) (rw parts at c))
