pub mod Table
pub mod Shown
pub mod LeftOut
pub mod Fields
