-- The ordered lists: plain facts, and how their clauses are kept.
pub mod Lists
pub mod Facts
pub mod Kept
pub mod Inserted
pub mod Members
pub mod Known
pub mod Sides
pub mod Merged
