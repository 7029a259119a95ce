pub mod Varuint
pub mod Grammar
pub mod Limits
pub mod Reader
pub mod Encoding
pub mod FaultLaws
pub mod FaultNames
