pub mod CommandAnswers
pub mod Texts
pub mod ViewsFound
pub mod ListedCalls
pub mod TracesFound
