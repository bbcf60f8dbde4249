pub mod Planned
pub mod Playing
pub mod Testing
