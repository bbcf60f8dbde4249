-- How the clauses on runs are kept, and when a merge can be decided.
pub mod Kept
pub mod Merging
