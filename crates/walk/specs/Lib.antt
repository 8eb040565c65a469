-- The walk over a pool: nothing here is for a reader to believe; the definitions of the check are those of `tree`.
pub mod inner
