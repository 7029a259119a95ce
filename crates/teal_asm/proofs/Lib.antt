pub mod Emitting
pub mod Gathering
pub mod Bodies
pub mod LineByLine
pub mod Assembled
pub mod Pragma
pub mod Resolving
mod Needless
mod Thinning
pub mod Branches
mod ThinReading
