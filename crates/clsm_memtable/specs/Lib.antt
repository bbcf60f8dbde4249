pub mod Settled
pub mod Filling
pub mod Writing
pub mod Inserting
pub mod Entering
