-- The list of batches: plain facts, how its clauses are kept, and what it asks of a step.
pub mod Facts
pub mod Opens
pub mod Staging
pub mod Kept
pub mod Taken
pub mod Lifting
