-- What a reader believes of desks, turns and rows of them, demand 1 of the desks, and demand 3.
pub mod Desk
pub mod Turn
pub mod Answers
pub mod Promises
pub mod Refused
pub mod Rows
pub mod Demand3
pub mod OurPools
pub mod inner
