pub mod Reading
pub mod Digits
pub mod ManyReading
pub mod VaruintWriting
pub mod Bytes
pub mod Prefixes
pub mod Appended
