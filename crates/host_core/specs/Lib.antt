pub mod World
pub mod Happens
pub mod HostView
pub mod Batches
pub mod Many
pub mod WholeRuns
