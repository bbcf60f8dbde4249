-- The chains of cells: plain facts, and how their clauses are kept.
pub mod Facts
pub mod Short
pub mod Kept
pub mod Merged
