pub mod ReplyTexts
pub mod SpelledNames
pub mod Moved
