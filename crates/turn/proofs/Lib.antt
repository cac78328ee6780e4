pub mod Views
pub mod Keeps
pub mod SeatLists
