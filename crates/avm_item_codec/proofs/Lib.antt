pub mod ListReading
pub mod ItemsBack
pub mod ItemsEncoded
pub mod ItemsRead
pub mod LedgerValues
