mod Places
pub mod Maps
pub mod KeyOrder
pub mod Counts
pub mod SameStates
