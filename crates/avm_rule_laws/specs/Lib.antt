pub mod Rules
pub mod Bounds
pub mod Encodings
pub mod PutOrder
pub mod ReadBlocks
