pub mod Replies
pub mod Desks
pub mod Promises
