-- How the clauses on pins and snapshots are kept.
pub mod Kept
pub mod Snapshots
