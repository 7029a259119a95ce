pub mod MachineValues
pub mod Digests
pub mod FittingRows
pub mod BoundedRows
pub mod ProgramValues
pub mod SoundPuts
pub mod KeptRules
pub mod SoundReading
pub mod DistinctEncodings
pub mod CheckedCalls
pub mod BoundedCalls
pub mod AnyOrder
mod ReadBlocks
