-- Document 01, "Events and the rule of loss": an event, its two words in the list, and what carrying it out does.
use Rattle.std.specs.Prelude.{ℕ, ◌+◌, ◌-◌, ◌*◌, ◌/◌, ◌%◌, ◌^◌, List, [], ◌∷◌, length, get_or, set, eqb, if◌then◌else◌}
use Rattle.std.specs.Prelude.{Option, Some as some, None as none}
use Rattle.words.specs.Tests.{within}
-- a store of a value to a word, a flush of a line, a fence: the type of the code
use Rattle.words.specs.declared.event.Event.{Event}
use Rattle.words.specs.declared.event.Event.TheVariants.{Store as store, Flush as flush, Fence as fence}

-- word w of a memory, or of a list
abbrev pub at : List ℕ → ℕ → ℕ
at m w = get_or m w 0

-- "1 store, 2 flush, 3 fence"
abbrev pub kind_of : Event → ℕ
kind_of (store w v) = 1
kind_of (flush l) = 2
kind_of fence = 3

-- "the word or line number", and "a fence's number is 0"
abbrev pub number_of : Event → ℕ
number_of (store w v) = w
number_of (flush l) = l
number_of fence = 0

-- "the value stored (0 for flush and fence ..)"
abbrev pub value_of : Event → ℕ
value_of (store w v) = v
value_of (flush l) = 0
value_of fence = 0

-- what the top byte of a word counts
abbrev pub top_byte : ℕ
top_byte = 2 ^ 56

-- "first the kind in the top byte .. with the word or line number below it, then the value stored"
abbrev pub first_word : Event → ℕ
first_word e = kind_of e * top_byte + number_of e

abbrev pub second_word : Event → ℕ
second_word e = value_of e

-- the event that a kind, a number and a value say; none where the kind is not 1 to 3
abbrev pub event_of : ℕ → ℕ → ℕ → Option Event
event_of kind number value =
    if eqb kind 1 then some (store number value)
    else if eqb kind 2 then some (flush number)
    else if eqb kind 3 then some fence
    else none

-- "Event n, from 1, takes words 2n − 2 and 2n − 1 of the list"; none where the list has no such event
abbrev pub event_at : List ℕ → ℕ → Option Event
event_at l n =
    if within 1 n (length l / 2)
    then event_of (at l (2 * n - 2) / top_byte) (at l (2 * n - 2) % top_byte) (at l (2 * n - 1))
    else none

-- "Carrying out a store sets a word; flush and fence change no live word."
abbrev pub step : List ℕ → Event → List ℕ
step m (store w v) = set m w v
step m (flush l) = m
step m fence = m

-- events carried out one after the other
abbrev pub run : List ℕ → List Event → List ℕ
run m [] = m
run m (e ∷ es) = run (step m e) es
