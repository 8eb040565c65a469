-- What the calls promise, and the demands that they meet; and what the functions under them do.
pub mod Promises
pub mod Demand1
pub mod Demand2
pub mod inner
