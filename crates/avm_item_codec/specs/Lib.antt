pub mod ItemEncoding
pub mod ItemReader
pub mod ItemRules
pub mod ItemRoundTrip
pub mod WorkedItems
