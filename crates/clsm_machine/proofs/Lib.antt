pub mod WorldSteps
pub mod Runs
pub mod SeatSteps
