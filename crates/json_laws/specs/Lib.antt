pub mod ReadBack
pub mod OfBytes
pub mod Accepted
pub mod Executable
pub mod Proposed
pub mod Paths
