-- What a reader believes of many nodes together: the header, the way down, the well-formed pool, its map, the halves of a split, and the
-- whole-pool check.
pub mod Header
pub mod Kids
pub mod Path
pub mod Lists
pub mod WellFormed
pub mod Map
pub mod Halves
pub mod Check
pub mod Visits
pub mod inner
