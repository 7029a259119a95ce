pub mod Paths
pub mod Steps
pub mod LaidOut
pub mod Asked
pub mod Placed
pub mod Unapproved
pub mod AskedFor
pub mod CallFaults
