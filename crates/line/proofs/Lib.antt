-- Laws of lines: fields, numbers in and out, the room of texts, lines taken byte by byte.
pub mod Parts
pub mod Decimal
pub mod Texts
pub mod Written
pub mod TakenLemmas
pub mod Examples
