-- What the functions of a split ask and answer. The prover holds the code to it; no promise and no demand speaks of it.
pub mod Opened
pub mod Pairs
pub mod Splitting
