pub mod LiveOpening
pub mod Sources
pub mod Debuggers
pub mod Laws
pub mod FaultNames
