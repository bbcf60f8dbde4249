-- How the clauses on what seats noted are kept.
pub mod Kept
