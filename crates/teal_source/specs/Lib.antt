pub mod Operands
pub mod Commands
pub mod Statements
pub mod Shown
pub mod FaultNames
