pub mod Faults
pub mod HostFile
pub mod Kinds
pub mod Section
pub mod Served
