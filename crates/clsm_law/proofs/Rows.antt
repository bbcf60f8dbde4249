-- The words in a row: where each stands, and the row as a memory.
pub mod Blocks
pub mod Index
pub mod Words
pub mod Memory
pub mod Entries
