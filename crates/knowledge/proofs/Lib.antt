pub mod Flowed
pub mod InOrder
pub mod Read
