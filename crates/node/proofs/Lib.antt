-- Laws of bytes, slot words, names, keys and views.
pub mod Tests
pub mod Joins
pub mod Digits
pub mod Places
pub mod Every
pub mod Sets
pub mod Ranks
pub mod Slots
pub mod Masks
pub mod Spots
pub mod Views
pub mod Passes
pub mod Walks
pub mod Ends
pub mod Vectors
pub mod Slips
