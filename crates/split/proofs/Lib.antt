-- How the returns of a split's functions meet its definitions.
pub mod Loops
pub mod Notes
pub mod Eights
pub mod Builds
pub mod Logs
pub mod Levels
pub mod Splits
pub mod Meets
