pub mod Verdicts
pub mod Past
pub mod Plain
pub mod WorkedVerdicts
