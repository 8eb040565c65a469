-- What the inner functions of this crate ask and answer, and the words that reading looks at. No promise and no demand speaks of them.
pub mod Reads
pub mod Descended
