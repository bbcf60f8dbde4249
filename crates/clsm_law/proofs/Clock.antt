-- The clock, its limit and the times of an epoch.
pub mod Times
pub mod Kept
