pub mod Searching
pub mod Frozen
pub mod Staying
pub mod Ordering
pub mod Seeking
pub mod Versions
pub mod Spans
pub mod ChainWalks
