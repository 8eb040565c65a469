-- Demand 2 at pools that there are: a full leaf of seven records, which a put of 80 splits where there are three nodes, and where there
-- are two it is refused for want of room.
use Prim.Native.Nat.{ℕ, ◌≤◌, ◌<◌}
use mathlib.Core.Path.{◌≡◌, sym, ◌∙◌, ap}
use mathlib.Core.List.{List, [], ◌∷◌}
use mathlib.Core.Bool.{◌&&◌}
use mathlib.Core.Option.{Option, none, some}
use native.Mathlib.Omega.{arith}
use lib.ListN.{length, take, replicate, length-replicate}
use lib.Dec.{T, eqb}
use Rattle.std.specs.Prelude.{Ok, Err}
use Rattle.words.specs.Pool.{list_words, capacity_most, total_of}
use Rattle.words.specs.Kinds as k
use Rattle.words.specs.Answers.{Said}
use Rattle.words.specs.Event.{at, run}
use Rattle.words.specs.Cuts.{Found, first}
use Rattle.words.specs.declared.refusal.Refusal.TheVariants.{NoRoom}
use Rattle.words.proofs.Parted.{cut_live}
use Rattle.node.specs.View.{no_end}
use Rattle.tree.specs.Lists.{Each}
use Rattle.tree.specs.WellFormed.{WellFormed}
use Rattle.tree.specs.Map.{map_of}
use Rattle.change.specs.declared.Request.TheVariants.{Put}
use Rattle.change.specs.declared.Outcome.{Outcome}
use Rattle.change.specs.declared.Outcome.TheVariants.{New, Replaced}
use Rattle.change.specs.Answers.{outcome_says}
use Rattle.change.specs.Gate.{Planned, refused}
use Rattle.change.specs.Recover.{recovery}
use Rattle.change.specs.Room.{LacksRoom}
use Rattle.change.specs.Put.{put}
use Rattle.change.specs.Rule.{by_presence, changed}
use Rattle.change.specs.Sums.{done as carried, fresh, put_key, put_all, seven, splitting, recovered}
use Rattle.change.specs.Sums.{rows, leaf_rows, split_rows, room_rows}
use Rattle.change.proofs.Opened.{opened}
use Rattle.change.proofs.Sums.{sums}
use Rattle.pool.specs.Demand2.{Changes, Served, no_room, done}
use Rattle.pool.proofs.Demand2.{demand_2}

-- with a list of 372 words
module _ (l : List ℕ) (size : length l ≡ list_words) where
  long : list_words ≤ length l
  long = omega arith

  -- a put keeps a pool well formed, also where it is refused
  put_keeps : (m : List ℕ) (key : ℕ) → WellFormed m → key < no_end → WellFormed (carried (put_key m key) m)
  put_keeps m key w h = rw size at (go (demand_2.serves m l (Put key key) w long h))
    where
      go : Served m l (Put key key) → WellFormed (run m (put (length l) m key key).events)
      go (no_room c e) = rw e w
      go (done n a c) = c.holds.well_formed

  puts_keep : (m ks : List ℕ) → WellFormed m → Each (λ (key : ℕ). key < no_end) ks → WellFormed (put_all m ks)
  unfolding put_all
  puts_keep m [] w h = w
  puts_keep m (key ∷ ks) w h = puts_keep (carried (put_key m key) m) ks (put_keeps m key w h.0) h.1

  fresh_well_formed : (capacity : ℕ) → 1 ≤ capacity → capacity ≤ capacity_most → WellFormed (fresh capacity)
  unfolding fresh
  fresh_well_formed capacity low high =
      let zeroes : List ℕ = replicate (total_of capacity) 0 in
      let e : length zeroes ≡ total_of capacity = length-replicate (total_of capacity) _ in
      rw (size, e) at (demand_2.formats zeroes l capacity long low high (omega arith)).holds.well_formed

  pub seven_well_formed : (capacity : ℕ) → 1 ≤ capacity → capacity ≤ capacity_most → WellFormed (seven capacity)
  unfolding seven
  seven_well_formed capacity low high =
      puts_keep (fresh capacity) (10 ∷ 20 ∷ 30 ∷ 40 ∷ 50 ∷ 60 ∷ 70 ∷ []) (fresh_well_formed capacity low high)
      (omega arith, (omega arith, (omega arith, (omega arith, (omega arith, (omega arith, (omega arith, tt)))))))

  -- "80 into the full leaf": new
  answer_new : (k.new, 0, []) ≡ outcome_says (put_key (seven 3) 80).answer
  unfolding rows leaf_rows split_rows room_rows
  answer_new = sums.1.1.1.1.1.1.1.1.1.1.0

  pub split_80 : Changes (seven 3) l (put (length l) (seven 3) 80 80) (map_of (seven 3)) (changed 80 (some 80) (map_of (seven 3)))
  split_80 = go (demand_2.serves (seven 3) l (Put 80 80) (seven_well_formed 3 (omega arith) (omega arith)) long (omega arith))
    where
      not_refused : put (length l) (seven 3) 80 80 ≡ refused NoRoom → ⊥
      not_refused e =
          let x : (k.new, 0, []) ≡ outcome_says (Err NoRoom)
          = answer_new ∙ ap (λ (q : Planned Outcome). outcome_says q.answer) (rw size at e) in
          omega (arith, ap (λ (s : Said). s.0) x)

      go : Served (seven 3) l (Put 80 80)
          → Changes (seven 3) l (put (length l) (seven 3) 80 80) (map_of (seven 3)) (changed 80 (some 80) (map_of (seven 3)))
      go (no_room c e) = absurd (not_refused e)
      go (done n a c) = c

  -- "capacity 2, leaf full, new key: refusal 5"
  answer_five : (k.refused, 5, []) ≡ outcome_says (put_key (seven 2) 80).answer
  unfolding rows leaf_rows split_rows room_rows
  answer_five = sums.1.1.1.1.1.1.1.1.1.0

  pub crowded_80 : LacksRoom (seven 2) 80
  crowded_80 = go (demand_2.serves (seven 2) l (Put 80 80) (seven_well_formed 2 (omega arith) (omega arith)) long (omega arith))
    where
      by_rule : (o : Option ℕ) → (put (length l) (seven 2) 80 80).answer ≡ Ok (by_presence New Replaced o) → ⊥
      by_rule none e =
          let x : (k.refused, 5, []) ≡ outcome_says (Ok New) = answer_five ∙ ap outcome_says (rw size at e) in
          omega (arith, ap (λ (s : Said). s.0) x)
      by_rule (some v) e =
          let x : (k.refused, 5, []) ≡ outcome_says (Ok Replaced) = answer_five ∙ ap outcome_says (rw size at e) in
          omega (arith, ap (λ (s : Said). s.0) x)

      go : Served (seven 2) l (Put 80 80) → LacksRoom (seven 2) 80
      go (no_room c e) = c
      go (done n a c) = absurd (by_rule (map_of (seven 2) 80) a)

-- "47 events, 5 pairs": a split
pub events_47 : length (splitting 80) ≡ 47
unfolding rows leaf_rows split_rows
events_47 = sym (ap (λ (ns : List ℕ). at ns 0) sums.1.1.1.1.1.0)

-- the live memory after n events of it is one of those that may be found ..
abbrev live : ℕ → List ℕ
live n = run (seven 3) (take n (splitting 80))

pub live_found : (n : ℕ) → Found recovery (seven 3) (splitting 80) n (live n)
live_found n = first (cut_live (seven 3) (take n (splitting 80)))

-- .. and both maps occur: the seven records up to the log's fence, event 30, and the eight from the commit word's store on
pub both_occur : T (eqb (length (recovered (live 30))) 7 && eqb (length (recovered (live 31))) 8 && eqb (length (recovered (live 40))) 8)
unfolding opened
both_occur = tt
