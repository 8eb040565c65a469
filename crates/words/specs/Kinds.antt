-- The cases of document 01's answers, numbered, each number named once.
use Rattle.std.specs.Prelude.{ℕ}

abbrev pub refused : ℕ
refused = 0

abbrev pub new : ℕ
new = 1

abbrev pub replaced : ℕ
replaced = 2

abbrev pub removed : ℕ
removed = 3

abbrev pub absent : ℕ
absent = 4

abbrev pub found : ℕ
found = 5

abbrev pub formatted : ℕ
formatted = 6

abbrev pub clean : ℕ
clean = 7

abbrev pub recovered : ℕ
recovered = 8

abbrev pub sound : ℕ
sound = 9

abbrev pub fault : ℕ
fault = 10

abbrev pub done : ℕ
done = 11

abbrev pub accepted : ℕ
accepted = 12

abbrev pub idle : ℕ
idle = 13

-- a turn that served a request, whatever the outcome
abbrev pub served : ℕ
served = 14
