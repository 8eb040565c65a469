-- How the returns of the walk's functions meet its definitions.
pub mod Marks
pub mod Walks
pub mod Children
pub mod Checks
