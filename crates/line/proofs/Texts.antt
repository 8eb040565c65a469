-- The bounds of lines, and the room that texts take.
use Rattle.std.proofs.Common.{◌≡◌, ◌≤◌, refl, arith, length, length-append, lit≤}
use Rattle.std.specs.Prelude.{Result, Ok, Err}
use Rattle.words.specs.declared.refusal.Refusal.{Refusal}
use Rattle.words.specs.Refusals.{number}
use Rattle.change.specs.declared.Request.{Request}
use Rattle.change.specs.declared.Request.TheVariants.{Put, Fetch, Delete}
use Rattle.change.specs.declared.Outcome.{Outcome}
use Rattle.change.specs.declared.Outcome.TheVariants.{New, Replaced, Removed, Absent, Found}
use Rattle.line.specs.declared.parsing.BadLine.{BadLine}
use Rattle.line.specs.declared.answering.Fields.{Fields}
use Rattle.line.specs.declared.parsing.TheConstants.{LINE_MOST}
use Rattle.line.specs.declared.answering.TheConstants.{TEXT_MOST}
use Rattle.line.specs.Line.{line_most, text_most, command_text, outcome_text, text}
use Rattle.line.proofs.Decimal.{length_digits}

-- the constants of the code are the numbers of the definitions
pub line_bound : LINE_MOST ≡ line_most
line_bound = refl

pub text_bound : TEXT_MOST ≡ text_most
text_bound = refl

pub length_command : (r : Request) → length (command_text r) ≡ 3
length_command (Put k v) = refl
length_command (Fetch k) = refl
length_command (Delete k) = refl

pub length_outcome : (out : Result Outcome Refusal) → length (outcome_text out) ≤ 28
length_outcome (Ok New) = lit≤ tt
length_outcome (Ok Replaced) = lit≤ tt
length_outcome (Ok Removed) = lit≤ tt
length_outcome (Ok Absent) = lit≤ tt
length_outcome (Ok (Found v)) = omega (arith, length_digits v)
length_outcome (Err why) = omega (arith, length_digits (number why))

-- every text fits in its room
pub length_text : (told : Result Fields BadLine) → length (text told) ≤ text_most
length_text (Ok f) =
    simp length-append (omega (arith, length_command f.request, length_outcome f.outcome, length_digits f.events))
length_text (Err bad) = lit≤ tt

-- the lengths of what a line of output is made of
pub ruleset lengths = (length_command, length_outcome, length_digits)
