-- How the calls' returns meet their definitions, and the proofs of demands 1 and 2.
pub mod Planning
pub mod Gates
pub mod Checks
pub mod Formats
pub mod Fetches
pub mod Deletes
pub mod Recovers
pub mod Puts
pub mod Fulls
pub mod Tight
pub mod Demand1
pub mod Demand2
pub mod Instance
