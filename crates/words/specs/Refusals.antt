-- Document 01, "Numbers of refusal": the number of each, and how a table of them is read.
use Rattle.std.specs.Prelude.{ℕ, ◌<◌, ◌≡◌, ◌⊎◌, List, [], ◌∷◌}
use Rattle.words.specs.declared.refusal.Refusal.{Refusal}
use Rattle.words.specs.declared.refusal.Refusal.TheVariants.{ShortList, NoPool, Unfinished, Damaged, NoRoom, BadLog}
use Rattle.words.specs.declared.refusal.Refusal.TheVariants.{BadCapacity, ShortSlice, NoDesk, FullDesk, ShortMarks, NoEvent}

abbrev pub number : Refusal → ℕ
number ShortList = 1
number NoPool = 2
number Unfinished = 3
number Damaged = 4
number NoRoom = 5
number BadLog = 6
number BadCapacity = 7
number ShortSlice = 8
number NoDesk = 9
number FullDesk = 10
number ShortMarks = 11
number NoEvent = 12

-- the rows of 01's table for a call, in 01's order: a condition, and its number
abbrev pub Rows : Type 1
Rows = List (Type 0 × ℕ)

-- the number answered is that of the first row whose condition holds, and 0, no refusal, where none does
abbrev pub Says : Rows → ℕ → Type 0
Says [] n = n ≡ 0
Says (row ∷ rows) n = (row.0 × (n ≡ row.1)) ⊎ ((¬ row.0) × Says rows n)

-- x is not in low..high
abbrev pub Outside : ℕ → ℕ → ℕ → Type 0
Outside low x high = (x < low) ⊎ (high < x)
