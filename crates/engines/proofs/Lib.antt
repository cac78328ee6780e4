pub mod Input
pub mod Noting
pub mod Words
