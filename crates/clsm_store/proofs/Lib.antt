pub mod Starts
pub mod InOrder
mod SeatPlaces
mod Chained
mod Joint
mod SweepParts
mod Visits
mod PagesDown
mod FoundRows
