pub mod Meaning
pub mod Reading
pub mod Program
pub mod Instructions
pub mod Bodies
pub mod Constants
pub mod Thinned
pub mod LineWords
