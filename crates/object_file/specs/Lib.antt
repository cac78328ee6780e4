pub mod Maps
pub mod Names
pub mod Numbers
pub mod Programs
pub mod Texts
