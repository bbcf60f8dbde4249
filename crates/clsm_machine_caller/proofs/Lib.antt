pub mod SeatRows
pub mod SeatRanges
pub mod SeatPages
pub mod SeatRights
pub mod SeatWords
pub mod Uncut
