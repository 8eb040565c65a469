-- What a reader believes of the changes: the events of each step, what each call answers and leaves, the map's rule, and the sums
-- that document 01 did by hand.
pub mod Answers
pub mod Gate
pub mod Steps
pub mod Plan
pub mod Format
pub mod Recover
pub mod Fetch
pub mod Delete
pub mod Put
pub mod Check
pub mod Room
pub mod Calls
pub mod Rule
pub mod Most
pub mod Told
pub mod Sums
pub mod Conditions
