-- The seats' records: plain facts, and how their clauses are kept.
pub mod Histories
pub mod Facts
pub mod Kept
pub mod Rising
