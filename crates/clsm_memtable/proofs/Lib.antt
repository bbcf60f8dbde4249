pub mod Exchanges
pub mod Drawn
pub mod Linked
pub mod Places
pub mod Settles
pub mod Fillings
pub mod Inserts
pub mod Entries
