pub mod Programs
pub mod ViewTexts
pub mod BlockCommands
pub mod DebugCommands
pub mod DebugRuns
pub mod Answers
