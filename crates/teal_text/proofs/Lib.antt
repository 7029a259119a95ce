pub mod Reading
pub mod LineReading
mod LineLengths
pub mod Numerals
mod Rows
pub mod TokenOrder
pub mod PlainWords
pub mod ReadBack
