-- What `==` says of views and of worlds.
pub mod Views
pub mod Mergers
pub mod Worlds
