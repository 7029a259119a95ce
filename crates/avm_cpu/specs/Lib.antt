pub mod Copies
pub mod Machine
pub mod Operands
