pub mod Calls
pub mod Conditional
pub mod Lent
pub mod Opening
pub mod Values
