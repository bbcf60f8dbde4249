pub mod Pinning
pub mod Quieting
pub mod Snapshots
