pub mod Each
pub mod Literals
