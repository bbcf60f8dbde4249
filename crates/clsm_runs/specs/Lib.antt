pub mod Searching
pub mod Passing
pub mod Placing
pub mod Outputs
pub mod Staying
