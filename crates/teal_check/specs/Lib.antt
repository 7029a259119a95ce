pub mod WellFormed
pub mod Shown
pub mod FaultNames
pub mod FaultNumbers
