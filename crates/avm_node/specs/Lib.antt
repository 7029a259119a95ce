pub mod CallParts
pub mod ProposeShown
pub mod ProposeCommands
pub mod WorkerSets
pub mod Answers
