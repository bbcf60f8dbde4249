pub mod Settled
pub mod Race
pub mod Told
pub mod Skew
