-- What a reader believes of words, lines, events and cuts: definitions in document 01's words and order.
pub mod Tests
pub mod Lists
pub mod Pool
pub mod Refusals
pub mod Kinds
pub mod Answers
pub mod Event
pub mod Written
pub mod Blocks
pub mod Carry
pub mod Loss
pub mod Cuts
