-- A slip in a reply.
pub mod Slips
