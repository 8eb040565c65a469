-- Document 01's example of the program, and lines that are bad, each computed.
use Rattle.std.proofs.Common.{◌≡◌, refl, [], ◌∷◌, ◌++◌, replicate, codes}
use Rattle.std.specs.Prelude.{Ok, Err}
use Rattle.change.specs.declared.Request.TheVariants.{Put, Fetch, Delete}
use Rattle.change.specs.declared.Outcome.TheVariants.{New, Absent, Found}
use Rattle.line.specs.Taken.{fresh, lines_come}
use Rattle.line.specs.Line.{bad_line, meaning, read, digits, digits_in, text}

-- "put 7 70"
pub put_line : meaning (codes "put 7 70") ≡ Ok (Put 7 70)
unfolding read
put_line = refl

-- "get 7"
pub get_line : meaning (codes "get 7") ≡ Ok (Fetch 7)
unfolding read
get_line = refl

-- "del 8"
pub del_line : meaning (codes "del 8") ≡ Ok (Delete 8)
unfolding read
del_line = refl

-- "put new 7"
pub put_text : text (Ok (record { request = Put 7 70; outcome = Ok New; events = 7 })) ≡ codes "put new 7\n"
unfolding digits digits_in
put_text = refl

-- "get found:70 0"
pub get_text : text (Ok (record { request = Fetch 7; outcome = Ok (Found 70); events = 0 }))
    ≡ codes "get found:70 0\n"
unfolding digits digits_in
get_text = refl

-- "del absent 0"
pub del_text : text (Ok (record { request = Delete 8; outcome = Ok Absent; events = 0 })) ≡ codes "del absent 0\n"
unfolding digits digits_in
del_text = refl

-- an empty line
pub empty_line : meaning [] ≡ Err bad_line
unfolding read
empty_line = refl

-- get 7 and a carriage return
pub carriage_return : meaning (codes "get 7\r") ≡ Err bad_line
unfolding read
carriage_return = refl

-- get 7 and a blank
pub trailing_blank : meaning (codes "get 7 ") ≡ Err bad_line
unfolding read
trailing_blank = refl

-- get +7
pub signed : meaning (codes "get +7") ≡ Err bad_line
unfolding read
signed = refl

-- get 18446744073709551615
pub largest : meaning (codes "get 18446744073709551615") ≡ Ok (Fetch 18446744073709551615)
unfolding read
largest = refl

-- get 18446744073709551616
pub too_large : meaning (codes "get 18446744073709551616") ≡ Err bad_line
unfolding read
too_large = refl

-- get and 61 zeroes, 65 bytes: the first 64 alone would ask for key 0
pub too_long : lines_come fresh (codes "get " ++ replicate 61 48) ≡ Err bad_line ∷ []
unfolding lines_come
too_long = refl

pub not_too_long : lines_come fresh (codes "get " ++ replicate 60 48) ≡ Ok (Fetch 0) ∷ []
unfolding lines_come read
not_too_long = refl
