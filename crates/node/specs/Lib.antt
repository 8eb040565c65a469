-- What a reader believes of one node: its slot word, what it says, and when it is sound.
pub mod Lists
pub mod Slot
pub mod View
pub mod inner
