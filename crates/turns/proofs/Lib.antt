pub mod Records
pub mod TwoSteps
pub mod Slips
