pub mod Commands
pub mod Pages
pub mod ReadingBack
pub mod Writing
