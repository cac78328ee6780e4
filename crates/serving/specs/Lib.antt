pub mod AtFirst
pub mod Lookups
pub mod Opened
pub mod Prepared
pub mod RunLines
pub mod Served
pub mod Report
