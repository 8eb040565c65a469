-- Document 01: "Where an answer is an enum, a definition gives this paper's number and values for each of its cases, and the promises use
-- that definition." This is the form of them all, and the answer of carrying out one event.
use Rattle.std.specs.Prelude.{ℕ, List, [], Result, Ok, Err}
use Rattle.words.specs.declared.refusal.Refusal.{Refusal}
use Rattle.words.specs.Refusals.{number}
use Rattle.words.specs.Kinds as k

-- the case, by its kind; the number of the refusal, 0 where the call is not refused; and the values
abbrev pub Said : Type 0
Said = ℕ × ℕ × List ℕ

-- "Numbers of refusal"
abbrev pub refused : Refusal → Said
refused why = (k.refused, number why, [])

abbrev pub carried_says : Result (Unit {0}) Refusal → Said
carried_says (Ok _) = (k.done, 0, [])
carried_says (Err why) = refused why
