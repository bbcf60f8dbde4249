pub mod Conditional
pub mod Ended
pub mod Places
pub mod Promises
pub mod Waiting
