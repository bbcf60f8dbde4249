-- What a reader finds in a lawful world.
pub mod Chains
pub mod Orders
pub mod Writes
pub mod Values
