-- Lines taken byte by byte, in the room of one line.
use Rattle.std.specs.Prelude.{ℕ, List, [], ◌∷◌, ◌++◌, Bool, true, false, Option, Some, None, Result, Err, ltb, leb, eqb, length, take}
use Rattle.std.specs.Prelude.{if◌then◌else◌}
use Rattle.change.specs.declared.Request.{Request}
use Rattle.line.specs.declared.parsing.BadLine.{BadLine}
use Rattle.line.specs.declared.taking.Taker.{Taker}
use Rattle.line.specs.Line.{bad_line, line_most, meaning, newline}

abbrev pub fresh : Taker
fresh = record { line = record { items = [] }; long = false }

-- "at most 64 bytes a line": a longer one is bad
abbrev pub whole : Taker → Result Request BadLine
whole t = if t.long then Err bad_line else meaning t.line.items

-- a byte that is not a newline is kept while there is room
abbrev pub with_byte : Taker → ℕ → Taker
with_byte t b =
    if leb line_most (length t.line.items) then record { line = t.line; long = true }
    else record { line = record { items = t.line.items ++ (b ∷ []) }; long = t.long }

-- what is left when a byte is taken, and the line that the byte ended, if it did
pub record Taken : Type 0 where
  pub taker : Taker
  pub came : Option (Result Request BadLine)

-- a newline ends a line; any other byte is added
abbrev pub stepped : Bool → Taker → ℕ → Taken
stepped true t b = record { taker = fresh; came = Some (whole t) }
stepped false t b = record { taker = with_byte t b; came = None }

abbrev pub step : Taker → ℕ → Taken
step t b = stepped (eqb b newline) t b

-- a last line without a newline counts (DECISIONS 23)
abbrev pub rest : Taker → Option (Result Request BadLine)
rest t = if eqb (length t.line.items) 0 then None else Some (whole t)

-- the bytes since the last newline, as they are taken: as many as a line may have, and whether there are more
abbrev pub taken : List ℕ → Taker
taken bytes = record { line = record { items = take line_most bytes }; long = ltb line_most (length bytes) }

abbrev pub and_then : Option (Result Request BadLine) → List (Result Request BadLine) → List (Result Request BadLine)
and_then None lines = lines
and_then (Some line) lines = line ∷ lines

-- what comes of bytes, one step each, and of the rest when they end
unfoldable pub lines_come : Taker → List ℕ → List (Result Request BadLine)
lines_come t [] = and_then (rest t) []
lines_come t (b ∷ bs) = and_then (step t b).came (lines_come (step t b).taker bs)
