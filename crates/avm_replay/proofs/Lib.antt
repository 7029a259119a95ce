pub mod Entries
pub mod Verdicts
pub mod MadeCalls
pub mod WorkedVerdicts
