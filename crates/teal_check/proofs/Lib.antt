pub mod Placing
pub mod Starts
pub mod Targeting
pub mod CheckedPrograms
