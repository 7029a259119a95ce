pub mod Codes
mod Names
