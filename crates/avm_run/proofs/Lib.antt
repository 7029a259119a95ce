mod Follow
mod Placings
mod Blocks
mod Stepping
mod AdmissionTests
mod Beginnings
mod Standings
mod Supplying
mod Outcomes
mod LiveRuns
mod Leading
mod Answering
mod Executing
mod Showing
mod KnownItems
pub mod FinishedCalls
mod ItemByItem
