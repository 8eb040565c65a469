-- Document 01, "A program reads lines ..": what a line means, what is printed for it, and the lines of an input.
use Rattle.std.specs.Prelude.{ℕ, zero, suc, ◌+◌, ◌-◌, ◌*◌, ◌/◌, ◌%◌, ◌^◌, List, [], ◌∷◌, ◌++◌, Bool, ltb, leb, eqb, length, codes}
use Rattle.std.specs.Prelude.{if◌then◌else◌}
use Rattle.std.specs.Prelude.{Option, Some, None, Result, Ok, Err}
use Rattle.std.specs.List.{slice_split}
use Rattle.std.specs.Str.{bytes_eq}
use Rattle.words.specs.Tests.{within}
use Rattle.words.specs.declared.refusal.Refusal.{Refusal}
use Rattle.words.specs.Refusals.{number}
use Rattle.change.specs.declared.Request.{Request}
use Rattle.change.specs.declared.Request.TheVariants.{Put, Fetch, Delete}
use Rattle.change.specs.declared.Outcome.{Outcome}
use Rattle.change.specs.declared.Outcome.TheVariants.{New, Replaced, Removed, Absent, Found}
use Rattle.line.specs.declared.parsing.BadLine.{BadLine}
use Rattle.line.specs.declared.answering.Fields.{Fields}

-- fields are parted by single blanks (DECISIONS 23)
abbrev pub blank : ℕ
blank = 32

-- the newline is not among the 64 bytes of a line (DECISIONS 23)
abbrev pub newline : ℕ
newline = 10

-- "at most 64 bytes a line"
abbrev pub line_most : ℕ
line_most = 64

-- the bytes of a line of output, at most
abbrev pub text_most : ℕ
text_most = 64

-- the parts before, between and after the bytes b: fields between blanks, lines between newlines
abbrev pub parts : ℕ → List ℕ → List (List ℕ)
parts b bytes = slice_split (λ x. eqb x b) bytes

-- digits only, no sign (DECISIONS 23): '0' to '9'
abbrev pub is_digit : ℕ → Bool
is_digit b = within 48 b 57

-- "a number over 64 bits" is none: the number that digits say after those that said n
unfoldable pub read : ℕ → List ℕ → Option ℕ
read n [] = if ltb n (2 ^ 64) then Some n else None
read n (d ∷ ds) = if is_digit d then read (n * 10 + (d - 48)) ds else None

-- "decimal"; leading zeros are accepted (DECISIONS 23); no digit is no number
abbrev pub number_of : List ℕ → Option ℕ
number_of [] = None
number_of (d ∷ ds) = read 0 (d ∷ ds)

-- "lines `put K V`, `get K`, `del K`": the commands' words
abbrev pub put_word : List ℕ
put_word = codes "put"

abbrev pub get_word : List ℕ
get_word = codes "get"

abbrev pub del_word : List ℕ
del_word = codes "del"

-- "`get K`, `del K`"
abbrev pub with_key : List ℕ → Option ℕ → Option Request
with_key w None = None
with_key w (Some k) = if bytes_eq w get_word then Some (Fetch k) else (if bytes_eq w del_word then Some (Delete k) else None)

-- "`put K V`"
abbrev pub with_value : List ℕ → Option ℕ → Option ℕ → Option Request
with_value w None v = None
with_value w (Some k) None = None
with_value w (Some k) (Some v) = if bytes_eq w put_word then Some (Put k v) else None

-- one field after the command, or two
abbrev pub request_of : List ℕ → List ℕ → Option (List ℕ) → Option Request
request_of w k None = with_key w (number_of k)
request_of w k (Some v) = with_value w (number_of k) (number_of v)

-- no fewer and no more: an empty line, a carriage return or a trailing blank is a bad line (DECISIONS 23)
abbrev pub fields_mean : List (List ℕ) → Option Request
fields_mean [] = None
fields_mean (w ∷ []) = None
fields_mean (w ∷ k ∷ []) = request_of w k None
fields_mean (w ∷ k ∷ v ∷ []) = request_of w k (Some v)
fields_mean (w ∷ k ∷ v ∷ x ∷ xs) = None

-- a line that asks nothing is bad
abbrev pub bad_line : BadLine
bad_line = record {}

abbrev pub or_bad : Option Request → Result Request BadLine
or_bad (Some request) = Ok request
or_bad None = Err bad_line

-- "(decimal, at most 64 bytes a line)", the newline not counted (DECISIONS 23); "Any other line .. `? badline 0`"
abbrev pub meaning : List ℕ → Result Request BadLine
meaning bytes = if leb (length bytes) line_most then or_bad (fields_mean (parts blank bytes)) else Err bad_line

-- the last part does not count where it is empty
abbrev pub without_empty_last : List (List ℕ) → List (List ℕ)
without_empty_last [] = []
without_empty_last ([] ∷ []) = []
without_empty_last ((x ∷ xs) ∷ []) = (x ∷ xs) ∷ []
without_empty_last (p ∷ q ∷ ps) = p ∷ without_empty_last (q ∷ ps)

-- the lines of an input; a last line without a newline counts (DECISIONS 23)
abbrev pub lines_in : List ℕ → List (List ℕ)
lines_in input = without_empty_last (parts newline input)

-- the decimal digits of a number below 10 ^ n, with no leading zeros, and '0' for 0
unfoldable pub digits_in : ℕ → ℕ → List ℕ
digits_in zero x = []
digits_in (suc n) x = if ltb x 10 then (48 + x) ∷ [] else digits_in n (x / 10) ++ ((48 + x % 10) ∷ [])

-- a number below 2 ^ 64 has at most 20
unfoldable pub digits : ℕ → List ℕ
digits x = digits_in 20 x

-- "Fields: command, answer .., events"
abbrev pub command_text : Request → List ℕ
command_text (Put k v) = put_word
command_text (Fetch k) = get_word
command_text (Delete k) = del_word

-- "answer (new, replaced, removed, absent, found:value, refused:number)"
abbrev pub outcome_text : Result Outcome Refusal → List ℕ
outcome_text (Ok New) = codes "new"
outcome_text (Ok Replaced) = codes "replaced"
outcome_text (Ok Removed) = codes "removed"
outcome_text (Ok Absent) = codes "absent"
outcome_text (Ok (Found value)) = codes "found:" ++ digits value
outcome_text (Err why) = codes "refused:" ++ digits (number why)

-- "put new 7": the fields of a line of output, and its newline
abbrev pub fields_text : Fields → List ℕ
fields_text f = command_text f.request ++ codes " " ++ outcome_text f.outcome ++ codes " " ++ digits f.events ++ codes "\n"

-- "Any other line .. prints `? badline 0`"
abbrev pub text : Result Fields BadLine → List ℕ
text (Ok f) = fields_text f
text (Err bad) = codes "? badline 0\n"
