-- What the functions under the calls ask and answer. The prover holds the code to these; no promise and no demand speaks of them.
pub mod Formatting
pub mod Logging
pub mod Passing
pub mod Puts
