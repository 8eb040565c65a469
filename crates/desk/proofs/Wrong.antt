-- What demand 3 shuts out: turns that look right and are not, each refuted on a row of calls.
use Prim.Native.Nat.{ℕ, suc, ◌≤◌}
use mathlib.Core.Path.{◌≡◌, refl, sym}
use mathlib.Core.List.{List, [], ◌∷◌, ◌++◌}
use mathlib.Core.Bool.{Bool, true, false}
use native.Mathlib.Omega.{arith}
use lib.Dec.{eqb}
use lib.ListN.{length, take, replicate, length-replicate}
use borrow.Author.Tests.{eq-eqb}
use Rattle.std.specs.Prelude.{None, Some, Ok, if◌then◌else◌}
use Rattle.words.specs.Pool.{list_words}
use Rattle.words.specs.Cuts.{first}
use Rattle.words.specs.declared.refusal.Refusal.TheVariants.{NoPool}
use Rattle.words.proofs.Parted.{cut_live}
use Rattle.tree.specs.Header.{form_agrees}
use Rattle.change.specs.declared.Request.{Request}
use Rattle.change.specs.declared.Request.TheVariants.{Fetch}
use Rattle.change.specs.Rule.{Map}
use Rattle.desk.specs.declared.answer.Turned.TheVariants.{Idle}
use Rattle.desk.specs.declared.answer.Turn.{Turn}
use Rattle.desk.specs.Desk.{Desk, fresh, held, with_desk, first_full, choose}
use Rattle.desk.specs.Turn.{Left, as_handed, serve_turn, submit_answer, submit_desks}
use Rattle.desk.specs.Turn as d
use Rattle.desk.specs.Rows.{Way, House, submit, turn, Seen, seen, events_of, after, turns, accepted, times}
use Rattle.desk.specs.Refused.{Refuses}
use Rattle.desk.specs.Demand3.{Pools, InTime, Ruled, idle, by_rule, no_room, Demand3}

-- a turn looks from desk 1 each time
abbrev from_one : List ℕ → List ℕ → List Desk → ℕ → Left
from_one m l ds last = let k = choose ds 0 in serve_turn m l (length ds) last k (held ds k)

abbrev looks_from_one : Way
looks_from_one = record { turn = from_one; desks = λ m l ds last. with_desk ds (from_one m l ds last).answer.member fresh }

-- a turn is always Idle
abbrev always_idle : Way
always_idle = record { turn = λ m l ds last. as_handed m l last (Ok Idle); desks = λ m l ds last. ds }

-- a turn keeps the desk full
abbrev keeps_full : Way
keeps_full = record { turn = d.turn; desks = λ m l ds last. ds }

-- a turn serves desk 1 and no other
abbrev first_alone : List ℕ → List ℕ → List Desk → ℕ → Left
first_alone m l ds last = serve_turn m l (length ds) last 1 (held ds 1)

abbrev serves_first : Way
serves_first = record { turn = first_alone; desks = λ m l ds last. with_desk ds (first_alone m l ds last).answer.member fresh }

-- a turn picks the right desk, empties it and drops its request: it stores nothing, answers Idle, and names the member for show
abbrev dropping : List ℕ → List ℕ → List Desk → ℕ → Left
dropping m l ds last =
    let k = choose ds last in
    record { answer = record { turned = Ok Idle; member = k; events = 0; last = k }; pool = m; list = l }

abbrev drops : Way
drops = record { turn = dropping; desks = λ m l ds last. with_desk ds (choose ds last) fresh }

-- a turn of member 1 carries out a thousand events
abbrev spending : List ℕ → List ℕ → List Desk → ℕ → Left
spending m l ds last =
    let t = d.turn m l ds last in
    let a = t.answer in
    let many : Turn = record { turned = a.turned; member = a.member; events = 1000; last = a.last } in
    record { answer = if eqb a.member 1 then many else a; pool = t.pool; list = t.list }

abbrev overspends : Way
overspends = record { turn = spending; desks = d.turn_desks }

-- a turn empties the desk only where it carried out events, and so keeps a request that is refused
abbrev keeps_refused : Way
keeps_refused =
    record {
      turn = d.turn;
      desks = λ m l ds last. if eqb (d.turn m l ds last).answer.events 0 then ds else d.turn_desks m l ds last;
    }

-- a member that no turn serves is not served in time
unserved : (M j : ℕ) (q : Request) (ts : List Seen) → times j ts ≡ 0 → InTime M j q ts → ⊥
unserved M j q ts e x = omega (arith, go x.before, rw x.in_row at e)
  where
    more : (b : Bool) (n : ℕ) → n ≤ (if b then suc n else n)
    more true n = omega arith
    more false n = omega arith

    go : (b : List Seen) → 1 ≤ times j (b ++ x.its ∷ x.rest)
    go [] = rw (eq-eqb x.its.left.answer.member j x.serves.1) (omega arith)
    go (t ∷ b) =
        let n = times j (b ++ x.its ∷ x.rest) in
        omega (arith, go b, more (eqb t.left.answer.member j) n)

abbrev words : List ℕ
words = replicate list_words 0

room : list_words ≤ length words
room = rw (length-replicate {A = ℕ}) (omega arith)

module _ (P : Pools) (m : List ℕ) (p q : Request) (fits_p : P.Fits p) (fits_q : P.Fits q) where
  -- two desks; member 1 waits, member 2 submits, and member 1 submits again once it is served
  abbrev two : House
  two = record { pool = m; desks = Some p ∷ None ∷ []; last = 0 }

  pub starves : Demand3 looks_from_one P two → ⊥
  unfolding turns after submit_answer submit_desks serve_turn first_full
  starves x =
      let row = turn words ∷ submit 1 p ∷ turn words ∷ [] in
      unserved 2 2 q _ refl (x.in_time [] row 2 q (fits_q, (room, (fits_p, (room, tt)))) refl (omega arith))

  pub never_serves : Demand3 always_idle P two → ⊥
  unfolding turns after submit_answer submit_desks
  never_serves x =
      let row = turn words ∷ turn words ∷ [] in
      unserved 2 2 q _ refl (x.in_time [] row 2 q (fits_q, (room, (room, tt))) refl (omega arith))

  pub only_first : Demand3 serves_first P two → ⊥
  unfolding turns after submit_answer submit_desks serve_turn
  only_first x =
      let row = turn words ∷ turn words ∷ [] in
      unserved 2 2 q _ refl (x.in_time [] row 2 q (fits_q, (room, (room, tt))) refl (omega arith))

  abbrev one : House
  one = record { pool = m; desks = Some p ∷ []; last = 0 }

  pub dropped : Demand3 drops P one → ⊥
  unfolding turns after first_full
  dropped x = let (g, t, rest) = x.answers (turn words ∷ []) (room, tt) in go g t
    where
      go : (g : Map) → Ruled P (seen drops one words) (P.map_of m) g → ⊥
      go g (idle none a e) = let f : Some p ≡ None = none 1 in cc
      go g (by_rule r h a l e) = cc
      go g (no_room r h a l c e) = cc

  -- member 2 is served by the first turn; the second, of member 1, is one of the M turns all the same
  pub overspent : Demand3 overspends P (record { pool = m; desks = Some p ∷ None ∷ []; last = 1 }) → ⊥
  unfolding turns after submit_answer submit_desks serve_turn first_full
  overspent x =
      let row = turn words ∷ turn words ∷ [] in
      omega (arith, (x.in_time [] row 2 q (fits_q, (room, (room, tt))) refl (omega arith)).few)

  -- a pool whose recovery accepts nothing, whatever the turns
  pub never_accepts : (X : Way) → ((m l : List ℕ) → P.Accepts m l → ⊥) → Demand3 X P one → ⊥
  unfolding after
  never_accepts X none x =
      let live = first (cut_live m (take 0 (events_of (seen X one words)))) in
      none _ words ((x.cut [] words (room, tt) 0 _ live).accepted words room)

  pub serves_twice : Demand3 keeps_full P one → ⊥
  unfolding turns after accepted serve_turn first_full
  serves_twice x =
      let twice : ◌≡◌ {A = ℕ} 3 1 = x.each_once (turn words ∷ turn words ∷ []) 1 (room, (room, tt)) (omega arith) in omega arith

-- a fetch on no pool at all is refused 2, and its desk is to be emptied
pub refused_stays : Refuses keeps_refused → ⊥
unfolding serve_turn first_full form_agrees
refused_stays x =
    let a = x.request_refused [] words (Some (Fetch 7) ∷ []) 0 NoPool refl in
    let one : a.member ≡ 1 = sym a.member_is in
    let kept : Some (Fetch 7) ∷ [] ≡ None ∷ [] = rw one at a.desks_are in
    let z : ◌≡◌ {A = ℕ} 0 1 = cc in
    omega arith
