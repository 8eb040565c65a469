-- What the inner functions of this crate ask and answer. The prover holds the code to these; no promise and no demand speaks of them.
pub mod Looked
pub mod Said
pub mod Marks
