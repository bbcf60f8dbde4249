-- How the clauses on decided times and their cells are kept.
pub mod Kept
pub mod Cells
pub mod Short
