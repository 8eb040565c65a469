-- Document 01, "Desks": a list of desks, and which of them a turn serves. Members are numbered from 1.
use Rattle.std.specs.Prelude.{ℕ, zero, suc, ◌-◌, List, [], ◌∷◌, ◌++◌, Bool, not, ◌&&◌, length, get_or, set, leb}
use Rattle.std.specs.Prelude.{Option, None, is_some, if◌then◌else◌}
use Rattle.words.specs.Tests.{within}
use Rattle.words.specs.Lists.{count_from}
use Rattle.change.specs.declared.Request.{Request}

-- "each empty or holding one put, fetch or delete"
abbrev pub Desk : Type 0
Desk = Option Request

abbrev pub fresh : Desk
fresh = None

abbrev pub full : Desk → Bool
full d = is_some d

-- "one for each member, 1 to 16"
abbrev pub desks_most : ℕ
desks_most = 16

-- a member's desk; an empty one where there is no such member
abbrev pub held : List Desk → ℕ → Desk
held ds zero = fresh
held ds (suc i) = get_or ds i fresh

-- the desks, in whatever form, with another one for a member
abbrev pub with_desk : {A : Type 0} → List A → ℕ → A → List A
with_desk ds zero d = ds
with_desk ds (suc i) d = set ds i d

-- not 9: "desk list empty or over 16; .. member 0 or past it"
abbrev pub may_submit : ℕ → ℕ → Bool
may_submit desks member = within 1 desks desks_most && within 1 member desks

-- not 9: "desk list empty or over 16; last served over its length"
abbrev pub may_turn : ℕ → ℕ → Bool
may_turn desks last = within 1 desks desks_most && leb last desks

-- neither 9 nor 10: "submit: desk full"
abbrev pub accepts : List Desk → ℕ → Bool
accepts ds member = may_submit (length ds) member && not (full (held ds member))

-- "after the one last served, going round": the members in the order in which a turn looks
abbrev pub round : ℕ → ℕ → List ℕ
round desks last = count_from (suc last) (desks - last) ++ count_from 1 last

-- the first of some members whose desk is full; 0 where there is none
unfoldable pub first_full : List Desk → List ℕ → ℕ
first_full ds [] = 0
first_full ds (j ∷ js) = let further = first_full ds js in if full (held ds j) then j else further

-- "A turn serves the first full desk after the one last served, going round"
abbrev pub choose : List Desk → ℕ → ℕ
choose ds last = first_full ds (round (length ds) last)
