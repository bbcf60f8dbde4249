pub mod Brought
pub mod Calls
pub mod Ended
pub mod Lines
pub mod Seated
pub mod Turns
pub mod Verdicts
