-- How the clauses on the lock are kept.
pub mod Kept
pub mod Found
