pub mod Lists
pub mod Joins
pub mod Visits
pub mod Counts
