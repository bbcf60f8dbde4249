-- How the clauses on drawn times are kept.
pub mod Kept
