-- Demand 2 holds.
use Prim.Native.Nat.{ℕ, ◌≤◌, ◌<◌}
use mathlib.Core.Path.{◌≡◌, refl, ap}
use mathlib.Core.Logic.{◌⊎◌, inl, inr, ⊎_elim}
use mathlib.Core.List.{List}
use native.Mathlib.Omega.{arith}
use lib.ListN.{length, take}
use borrow.Author.Tests.{le-ltb}
use Rattle.std.specs.Prelude.{Ok}
use Rattle.words.specs.Pool as p
use Rattle.words.specs.declared.event.Event.{Event}
use Rattle.words.specs.Event.{run, top_byte}
use Rattle.words.specs.Written.{written}
use Rattle.words.specs.Loss.{Cut}
use Rattle.words.specs.Cuts.{Found}
use Rattle.words.proofs.Tests.{within_of}
use Rattle.words.proofs.Events.{stores_of, run_off, length_run}
use Rattle.words.proofs.Agree.{Agree}
use Rattle.words.proofs.Listed.{written_lists, carried_all}
use Rattle.node.specs.View.{no_end}
use Rattle.tree.specs.Header.{total_in}
use Rattle.tree.specs.WellFormed.{WellFormed}
use Rattle.tree.specs.Map.{Map, find, map_of}
use Rattle.tree.proofs.Form.{Form, form}
use Rattle.change.specs.declared.Request.{Request}
use Rattle.change.specs.declared.Recovery.{Recovery}
use Rattle.change.specs.declared.Recovery.TheVariants.{Clean}
use Rattle.change.specs.Gate.{Planned, quiet}
use Rattle.change.specs.Format.{format_events, format_past_list, format}
use Rattle.change.specs.Recover.{recover, recovery}
use Rattle.change.specs.Calls.{serve, key_of}
use Rattle.change.specs.Rule.{empty}
use Rattle.change.proofs.Counts.{format_count}
use Rattle.change.proofs.Most.{fits}
use Rattle.change.proofs.Fresh.{fresh_well_formed, fresh_records}
use Rattle.change.proofs.Goes.{go_stores, go_inside, go_numbered}
use Rattle.change.proofs.Refused.{serve_counted}
use Rattle.change.proofs.Served as served
use Rattle.change.proofs.Recover.{recover_room}
use Rattle.change.proofs.Survives.{Accepts, Under, Seen, seen_well_formed, seen_map, total_fits, Survives}
use Rattle.change.proofs.LeafCuts.{none_survives}
use Rattle.change.proofs.ServeCuts.{serve_survives}
use Rattle.change.proofs.Told.{told}
use Rattle.change.proofs.FormatCuts.{FormatLeft, stood, no_pool, emptied, format_safe, format_under, format_cut}
use Rattle.pool.specs.Demand2.{Holds, CarriedOut, Untouched, KeepsRest, Accepted, Settles, Changes}
use Rattle.pool.specs.Demand2.{Served, no_room, done, NoPool, Formats, Demand2}

-- events under a total, within the slice, are written, read back and carried out
carries : {A : Type 0} {total : ℕ} (q : Planned A) (m l : List ℕ) → total ≤ length m → total ≤ top_byte → Under total q.events
    → length q.events ≤ p.events_most → p.list_words ≤ length l → CarriedOut q m l (run m q.events)
carries {total = total} q m l room fit u few long =
    let listed = written_lists q.events 0 l (go_numbered total q.events fit u) (omega arith) in
    let all = carried_all m (written q.events 0 l) 1 q.events listed (go_inside total m q.events room u) in
    record { listed = listed; unrefused = all.1; leaves = all.0 }

-- and they leave alone what lies past it
untouched : (total : ℕ) (es : List Event) → Under total es → Untouched total es
untouched total es u w v h s = omega (arith, go_stores (λ z. z < total) es w u (stores_of w v es s))

keeps : (total : ℕ) (m : List ℕ) (es : List Event) → Under total es → KeepsRest total m (run m es)
keeps total m es u = record {
  size = length_run m es;
  rest = λ x h. run_off m es x (λ s. omega (arith, go_stores (λ z. z < total) es x u s));
}

accepted : {m : List ℕ} → Accepts m → (l : List ℕ) → p.list_words ≤ length l → Accepted m l
accepted {m} a l long =
    let es : List Event = recovery m in
    let same : recover (length l) m ≡ recover p.list_words m = recover_room m long in
    record {
      unrefused = λ why e. a.unrefused why (rw same at e);
      plans = ap (λ (q : Planned Recovery). q.events) same;
      few = a.few;
      carried = rw same
          (carries (recover p.list_words m) m l a.form.room (total_fits a.form) a.under (omega (arith, a.few)) long);
      safe = a.safe;
      untouched = untouched (total_in m) es a.under;
    }

-- what survives every cut, and leaves a map when whole
module _ {A : Type 0} {m : List ℕ} (q : Planned A) (w : WellFormed m) (s : Survives m q.events) {g : Map}
    (holds : Holds (run m q.events) g) where
  abbrev es : List Event
  es = q.events

  size : Form m
  size = form m w.form

  old_holds : {m' : List ℕ} → Agree (Seen m) m' m → Holds m' (map_of m)
  old_holds a = record { well_formed = seen_well_formed w a; map_is = λ key. ap (λ (f : Map). f key) (seen_map w a) }

  settles : (n : ℕ) (m' : List ℕ) → Found recovery m es n m' → Settles m es n (map_of m) g m'
  settles n m' f = record {
    accepted = accepted (s.accepts f);
    either = ⊎_elim (λ a. inl (old_holds a)) (λ e. inr (rw e holds)) (s.leaves f);
    only_after = λ b. rw (s.last b f) holds;
    keeps = ⊎_elim (λ a. record { size = a.size; rest = λ x h. a.words x (inr h) }) (λ e. rw e (keeps (total_in m) m es s.under))
        (s.leaves f);
  }

  changes : (l : List ℕ) → p.list_words ≤ length l → length es ≤ p.events_most → Changes m l q (map_of m) g
  changes l long few = record {
    carried = carries q m l size.room (total_fits size) s.under few long;
    holds = holds;
    safe = s.safe;
    untouched = untouched (total_in m) es s.under;
    keeps = keeps (total_in m) m es s.under;
    cut = settles;
  }

serves : (m l : List ℕ) (q : Request) → WellFormed m → p.list_words ≤ length l → key_of q < no_end → Served m l q
serves m l q w long small = go (served.serve_served w (length l) q long small)
  where
    go : served.Served m q (serve (length l) m q) → Served m l q
    go (served.no_room n e) = no_room n e
    go (served.by_rule n a f i) =
        done n a
        (changes (serve (length l) m q) w (serve_survives w long q small)
        (record { well_formed = f; map_is = λ key. ap (λ (g : Map). g key) i }) l long (fits.serves (length l) m q))

-- format, on whatever memory
module _ (m l : List ℕ) (capacity : ℕ) (long : p.list_words ≤ length l) (low : 1 ≤ capacity) (high : capacity ≤ p.capacity_most)
    (room : p.total_of capacity ≤ length m) where
  abbrev fs : List Event
  fs = format_events capacity

  planned : format (length l) (length m) capacity ≡ record { answer = Ok 20; events = format_events capacity }
  unfolding format_past_list
  planned = rw (le-ltb _ _ long, within_of _ _ _ low high, le-ltb _ _ room, format_count capacity)

  fresh_holds : Holds (run m (format_events capacity)) empty
  unfolding find
  fresh_holds = record {
    well_formed = fresh_well_formed m capacity low high room;
    map_is = λ key. ap (find key) (fresh_records m capacity low high room);
  }

  -- what a cut leaves, by the number of events
  left : (n : ℕ) (m' : List ℕ) → Cut m (take n fs) m' → FormatLeft m fs n m'
  left = format_cut capacity m (omega arith)

  to_2 : {n : ℕ} {m' : List ℕ} → n ≤ 2 → FormatLeft m fs n m' → (m' ≡ m) ⊎ NoPool m'
  to_2 b (stood h e) = inl e
  to_2 b (no_pool h e) = inr e
  to_2 b (emptied h e) = absurd (omega arith)

  to_17 : {n : ℕ} {m' : List ℕ} → 3 ≤ n → n ≤ 17 → FormatLeft m fs n m' → NoPool m'
  to_17 a b (stood h e) = absurd (omega arith)
  to_17 a b (no_pool h e) = e
  to_17 a b (emptied h e) = absurd (omega arith)

  to_19 : {n : ℕ} {m' : List ℕ} → 18 ≤ n → FormatLeft m fs n m' → NoPool m' ⊎ (m' ≡ run m fs)
  to_19 a (stood h e) = absurd (omega arith)
  to_19 a (no_pool h e) = inl e
  to_19 a (emptied h e) = inr e

  from_20 : {n : ℕ} {m' : List ℕ} → 20 ≤ n → FormatLeft m fs n m' → m' ≡ run m fs
  from_20 a (stood h e) = absurd (omega arith)
  from_20 a (no_pool h e) = absurd (omega arith)
  from_20 a (emptied h e) = e

  formats : Formats m l capacity (format (length l) (length m) capacity)
  formats =
      let q : Planned ℕ = record { answer = Ok 20; events = fs } in
      let u : Under (p.total_of capacity) fs = format_under capacity low in
      rw planned (record {
        answer = refl;
        count = format_count capacity;
        carried = carries q m l room (omega arith) u (omega (arith, format_count capacity)) long;
        holds = fresh_holds;
        safe = format_safe capacity m;
        untouched = untouched (p.total_of capacity) fs u;
        keeps = keeps (p.total_of capacity) m fs u;
        to_2 = λ n m' b c. to_2 b (left n m' c);
        to_17 = λ n m' a b c. to_17 a b (left n m' c);
        to_19 = λ n m' a b c. to_19 a (left n m' c);
        from_20 = λ n m' a c. from_20 a (left n m' c);
      })

-- a well-formed pool holds its own map
holds_own : {m : List ℕ} → WellFormed m → Holds m (map_of m)
holds_own w = record { well_formed = w; map_is = λ key. refl }

pub demand_2 : Demand2
demand_2 = record {
  serves = serves;
  rests = λ m w. settles (quiet Clean) w (none_survives w) (holds_own w);
  formats = formats;
  counts = serve_counted;
  few = λ m l q. fits.serves (length l) m q;
  told = told;
}
