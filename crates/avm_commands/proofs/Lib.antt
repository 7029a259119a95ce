pub mod Replies
pub mod StepsMade
pub mod OneFinding
pub mod Verdicts
