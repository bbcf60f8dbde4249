pub mod Changes
pub mod Value
pub mod Config
pub mod History
pub mod Map
pub mod Right
pub mod Seats
