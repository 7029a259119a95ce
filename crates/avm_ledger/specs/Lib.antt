pub mod Ledgers
pub mod Encodings
pub mod FieldReader
pub mod LedgerReader
pub mod LedgerRules
pub mod LedgerRoundTrip
pub mod WorkedLedgers
pub mod FaultNames
