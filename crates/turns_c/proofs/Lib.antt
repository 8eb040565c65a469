-- Each exported call allows one outcome.
pub mod Tight
