pub mod Parts
pub mod Families
