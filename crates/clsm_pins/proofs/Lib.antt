pub mod Pinned
pub mod Released
pub mod Noted
