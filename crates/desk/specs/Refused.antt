-- Demand 1 of the desks: "What document 01's table names .. is refused with its number, and nothing lent is altered, save that a turn
-- answers a refused request and empties its desk." For every pool, list and desks, and every member and last served.
use Rattle.std.specs.Prelude.{ℕ, ◌-◌, ◌≤◌, ◌<◌, ◌≡◌, ◌⊎◌, List, [], ◌∷◌, length, get_or, set, Some, None, Result, Ok, Err}
use Rattle.words.specs.Refusals.{number}
use Rattle.words.specs.declared.refusal.Refusal.{Refusal}
use Rattle.change.specs.declared.Request.{Request}
use Rattle.change.specs.declared.Request.TheVariants.{Put, Fetch, Delete}
use Rattle.change.specs.Conditions.{Rows, Says, Outside, ShortList, NoPool, Unfinished, Damaged, NoRoom, SplitsEight}
use Rattle.desk.specs.declared.answer.Turned.{Turned}
use Rattle.desk.specs.declared.answer.Turned.TheVariants.{Served}
use Rattle.desk.specs.Desk.{Desk, held, choose}
use Rattle.desk.specs.Turn.{submit_answer, submit_desks}
use Rattle.desk.specs.Answers.{submit_says, turned_says}
use Rattle.desk.specs.Rows.{Way}

-- 9: "desk list empty or over 16; .. member 0 or past it"
abbrev pub NoMember : List Desk → ℕ → Type 0
NoMember ds member = Outside 1 (length ds) 16 ⊎ Outside 1 member (length ds)

-- 9: "desk list empty or over 16; last served over its length"
abbrev pub NoTurn : List Desk → ℕ → Type 0
NoTurn ds last = Outside 1 (length ds) 16 ⊎ (length ds < last)

-- the desk of a member, from 1 on, holds this request
abbrev pub Holds : List Desk → ℕ → Request → Type 0
Holds ds member q = get_or ds (member - 1) None ≡ Some q

-- 10: "submit: desk full"
abbrev pub FullDesk : List Desk → ℕ → Type 0
FullDesk ds member = (q : Request) × Holds ds member q

-- "Order: 9, 10, 1, then .. 2, 3, .. 4, .. 5; the eight-level case of 4 after 5"; "Inside a turn 2 to 5 become the member's answer"
abbrev pub request_rows : List ℕ → Request → Rows
request_rows m (Put key value) =
    (NoPool m, 2) ∷ (Unfinished m, 3) ∷ (Damaged m key, 4) ∷ (NoRoom m key, 5) ∷ (SplitsEight m key, 4) ∷ []
request_rows m (Fetch key) = (NoPool m, 2) ∷ (Unfinished m, 3) ∷ (Damaged m key, 4) ∷ []
request_rows m (Delete key) = (NoPool m, 2) ∷ (Unfinished m, 3) ∷ (Damaged m key, 4) ∷ []

abbrev pub desk_rows : List ℕ → Desk → Rows
desk_rows m None = []
desk_rows m (Some q) = request_rows m q

-- the number by which the turn itself is refused, 0 where it is not
abbrev pub itself_says : Result Turned Refusal → ℕ
itself_says (Ok turned) = 0
itself_says (Err why) = number why

-- of a way of taking turns
module _ (X : Way) where
  -- a turn leaves everything lent as it was: "member 0, 0 events, last served as handed"
  pub record AsHanded (m l : List ℕ) (ds : List Desk) (last : ℕ) : Type 0 where
    pub pool_is : (X.turn m l ds last).pool ≡ m
    pub list_is : (X.turn m l ds last).list ≡ l
    pub desks_are : X.desks m l ds last ≡ ds
    pub member_is : (X.turn m l ds last).answer.member ≡ 0
    pub events_are : (X.turn m l ds last).answer.events ≡ 0
    pub last_is : (X.turn m l ds last).answer.last ≡ last

  -- a turn answers a refused request: by 2 to 5, with 0 events; pool and list stay as they were, the desk of its member is emptied and no
  -- other, and that member is the new last served, "even if refused"
  pub record Answered (m l : List ℕ) (ds : List Desk) (last : ℕ) (why : Refusal) : Type 0 where
    pub request : Request
    pub member : ℕ
    pub member_is : (X.turn m l ds last).answer.member ≡ member
    pub one_of : (1 ≤ member) × (member ≤ length ds)
    pub held_it : Holds ds member request
    pub says : Says (request_rows m request) (number why)
    pub numbers : (2 ≤ number why) × (number why ≤ 5)
    pub events_are : (X.turn m l ds last).answer.events ≡ 0
    pub pool_is : (X.turn m l ds last).pool ≡ m
    pub list_is : (X.turn m l ds last).list ≡ l
    pub desks_are : X.desks m l ds last ≡ set ds (member - 1) None
    pub last_is : (X.turn m l ds last).answer.last ≡ member

  pub record Refuses : Type 0 where
    -- the numbers of submit and turn, by the first row whose condition holds
    pub submit : (ds : List Desk) (member : ℕ) → Says ((NoMember ds member, 9) ∷ (FullDesk ds member, 10) ∷ [])
        (submit_says (submit_answer ds member)).1
    pub turn_itself : (m l : List ℕ) (ds : List Desk) (last : ℕ) → Says ((NoTurn ds last, 9) ∷ (ShortList l, 1) ∷ [])
        (itself_says (X.turn m l ds last).answer.turned)
    pub turn_whole : (m l : List ℕ) (ds : List Desk) (last : ℕ)
        → Says ((NoTurn ds last, 9) ∷ (ShortList l, 1) ∷ desk_rows m (held ds (choose ds last)))
        (turned_says (X.turn m l ds last).answer.turned).1
    -- "Each leaves everything lent unchanged and counts 0 events."
    pub submit_refused : (ds : List Desk) (member : ℕ) (q : Request) (why : Refusal) → submit_answer ds member ≡ Err why
        → submit_desks ds member q ≡ ds
    pub turn_refused : (m l : List ℕ) (ds : List Desk) (last : ℕ) (why : Refusal) → (X.turn m l ds last).answer.turned ≡ Err why
        → AsHanded m l ds last
    -- "Inside a turn 2 to 5 become the member's answer and the desk is emptied."
    pub request_refused : (m l : List ℕ) (ds : List Desk) (last : ℕ) (why : Refusal)
        → (X.turn m l ds last).answer.turned ≡ Ok (Served (Err why)) → Answered m l ds last why
