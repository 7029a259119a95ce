pub mod Pages
pub mod Found
pub mod ReadingBack
pub mod MadeCalls
